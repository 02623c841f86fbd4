-- The lines of a record have 468 bytes at most.
use Rattle.std.specs.Prelude.{ℕ, ◌≤◌, length, Result, Ok, Err}
use Rattle.std.proofs.Common.{arith, length-append}
use Rattle.balance_decision.specs.declared.Unworked.{Unworked}
use Rattle.balance_decision.specs.Unworked.{unworked_number}
use Rattle.working_outcome.specs.declared.Working.{Working}
use Rattle.report_lines.specs.Lines.{exit_label, letter_l, letter_t, letter_r}
use Rattle.report_lines.specs.Lengths.{record_line_lem, exit_line_lem, access_line_lem, blocked_line_lem, refused_line_lem}
use Rattle.report_record.specs.Record.{worked_text, record_text}

worked_text_lem : (number cycle : ℕ) (w : Working) → length (worked_text number cycle w) ≤ 468
unfolding worked_text
worked_text_lem number cycle w =
    simp length-append
    (omega (
      arith,
      record_line_lem number cycle w.arrival w.rounds,
      exit_line_lem (exit_label letter_l) w.left,
      exit_line_lem (exit_label letter_t) w.through,
      exit_line_lem (exit_label letter_r) w.right,
      access_line_lem w.access,
      blocked_line_lem w.blocked cycle,
    ))

pub record_text_lem : (number cycle : ℕ) (r : Result Working Unworked) → length (record_text number cycle r) ≤ 468
unfolding record_text
record_text_lem number cycle (Ok w) = worked_text_lem number cycle w
record_text_lem number cycle (Err u) = omega (arith, refused_line_lem number (unworked_number u))

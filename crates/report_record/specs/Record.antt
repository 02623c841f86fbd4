-- What the program prints for a record, from its number, its cycle and its working.
use Rattle.std.specs.Prelude.{ℕ, List, ◌++◌, Result, Ok, Err}
use Rattle.balance_decision.specs.declared.Unworked.{Unworked}
use Rattle.balance_decision.specs.Unworked.{unworked_number}
use Rattle.working_outcome.specs.declared.Working.{Working}
use Rattle.report_lines.specs.Lines.{exit_label, letter_l, letter_t, letter_r, record_line, exit_line, access_line, blocked_line, refused_line}

-- six lines, exits in order
unfoldable pub worked_text : (number cycle : ℕ) → Working → List ℕ
worked_text number cycle w =
    record_line number cycle w.arrival w.rounds
    ++ exit_line (exit_label letter_l) w.left
    ++ exit_line (exit_label letter_t) w.through
    ++ exit_line (exit_label letter_r) w.right
    ++ access_line w.access
    ++ blocked_line w.blocked cycle

-- a refused record has one line; 15 stands without its sum
unfoldable pub record_text : (number cycle : ℕ) → Result Working Unworked → List ℕ
record_text number cycle (Ok w) = worked_text number cycle w
record_text number cycle (Err u) = refused_line number (unworked_number u)

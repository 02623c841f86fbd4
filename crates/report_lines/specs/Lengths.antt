-- How long the lines get.
use Rattle.std.specs.Prelude.{ℕ, ◌+◌, ◌≤◌, List, length}
use Rattle.std.proofs.Common.{arith, length-append}
use Rattle.text.proofs.Digits.{field_length}
use Rattle.exit_figures.specs.declared.ExitFigures.{ExitFigures}
use Rattle.report_lines.specs.Lines.{record_label, cycle_label, shift_label, rounds_label, exit_label, green_label, permille_label}
use Rattle.report_lines.specs.Lines.{blocked_label, of_label, refused_label, archive_label, letter_a}
use Rattle.report_lines.specs.Lines.{record_words, exit_words, refused_words}
use Rattle.report_lines.specs.Lines.{record_line, exit_line, access_line, blocked_line, refused_line, archive_refused_line}

-- each line: its words, twenty digits a number, a newline

pub record_line_lem : (number cycle arrival rounds : ℕ) → length (record_line number cycle arrival rounds) ≤ 108
unfolding record_line record_words
record_line_lem number cycle arrival rounds =
    simp length-append
    (omega (arith, field_length record_label number, field_length cycle_label cycle, field_length shift_label arrival, field_length rounds_label rounds))

pub exit_line_lem : (label : List ℕ) (f : ExitFigures) → length (exit_line label f) ≤ length label + 78
unfolding exit_line exit_words
exit_line_lem label f =
    simp length-append
    (omega (arith, field_length label f.total, field_length green_label f.green, field_length permille_label f.permille))

pub access_line_lem : (total : ℕ) → length (access_line total) ≤ 34
unfolding access_line
access_line_lem total = simp length-append (omega (arith, field_length (exit_label letter_a) total))

pub blocked_line_lem : (count cycle : ℕ) → length (blocked_line count cycle) ≤ 53
unfolding blocked_line
blocked_line_lem count cycle = simp length-append (omega (arith, field_length blocked_label count, field_length of_label cycle))

pub refused_line_lem : (number k : ℕ) → length (refused_line number k) ≤ 55
unfolding refused_line refused_words
refused_line_lem number k = simp length-append (omega (arith, field_length record_label number, field_length refused_label k))

pub archive_refused_line_lem : (k : ℕ) → length (archive_refused_line k) ≤ 36
unfolding archive_refused_line
archive_refused_line_lem k = simp length-append (omega (arith, field_length archive_label k))

-- The rows so far and those of the steps left are the whole; rows are of ten steps.
use Rattle.std.proofs.Common.{◌≡◌}
use Rattle.buffer.specs.Pieces.{Appending}
use Rattle.sheet_page.specs.SheetPage.{row_steps}
use Rattle.sheet_page.proofs.Lines.{run_lines}
use Rattle.sheet_page.proofs.flow_lines.Given as goal

abbrev pub invariant-loop-row : goal.invariant-loop-row
invariant-loop-row l = (l.row-iterator.size ≡ row_steps) × Appending l.fn.text (run_lines l.run) l.text (run_lines l.row-iterator.rest.now)

-- The lines so far and those of the entries left are the whole.
use Rattle.std.proofs.Common.{drop}
use Rattle.buffer.specs.Pieces.{Appending}
use Rattle.page.specs.Page.{lines}
use Rattle.sheet_page.specs.SheetPage.{pair_lines}
use Rattle.sheet_page.proofs.pair_lines.Given as goal

abbrev pub invariant-loop-row : goal.invariant-loop-row
invariant-loop-row l = Appending l.fn.text (lines (pair_lines l.fn.rows)) l.text (lines (drop l.row-index (pair_lines l.fn.rows)))

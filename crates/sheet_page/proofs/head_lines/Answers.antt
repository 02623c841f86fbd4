-- The record's line, its pair flows and its exits.
use Rattle.buffer.proofs.Pieces.{◌then◌}
use Rattle.page.specs.Laws.{line_alone, lines_append}
use Rattle.sheet_page.specs.SheetPage.{head_lines}
use Rattle.sheet_page.proofs.head_lines.Goals as goal

pub returns : goal.returns
unfolding head_lines
returns c =
    let pairs = rw c.into.ensures at c.pair_lines.ensures in
    rw (lines_append, lines_append, line_alone) (c.record_line.ensures then pairs then c.exit_lines.ensures)

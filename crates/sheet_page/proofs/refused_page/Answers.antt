-- The record's line, and blank lines.
use Rattle.std.proofs.Common.{rules}
use Rattle.buffer.proofs.Pieces.{◌then◌}
use Rattle.page.specs.Page.{page}
use Rattle.page.specs.Laws.{line_alone}
use Rattle.sheet_page.specs.SheetPage.{refused_page}
use Rattle.sheet_page.proofs.refused_page.Goals as goal

pub returns : goal.returns
unfolding refused_page page
returns c = rw line_alone (c.line.ensures _ (λ worded said. search rules) then c.end_page.ensures)

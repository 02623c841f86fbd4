-- What the three calls wrote, one after another, are the lines.
use Rattle.std.proofs.Common.{append_assoc, append-nil}
use Rattle.buffer.proofs.Pieces.{◌then◌}
use Rattle.page.specs.Page.{lines}
use Rattle.sheet_page.proofs.exit_lines.Goals as goal

pub returns : goal.returns
unfolding lines
returns c = rw (append-nil, ← append_assoc) (c.exit_line.ensures then c.exit_line-2.ensures then c.exit_line-3.ensures)

-- What the calls wrote, one after another, is the line: the field of the total and its end.
use Rattle.buffer.proofs.Pieces.{◌then◌}
use Rattle.report_lines.specs.Lines.{access_line}
use Rattle.report_lines.proofs.access_line.Goals as goal

pub returns : goal.returns
unfolding access_line
returns c = search ◌then◌

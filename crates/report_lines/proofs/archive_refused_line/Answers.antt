-- What the calls wrote, one after another, is the line: the field of the refusal and its end.
use Rattle.buffer.proofs.Pieces.{◌then◌}
use Rattle.report_lines.specs.Lines.{archive_refused_line}
use Rattle.report_lines.proofs.archive_refused_line.Goals as goal

pub returns : goal.returns
unfolding archive_refused_line
returns c = (rw c.from.ensures at c.append_field.ensures) then c.end_line.ensures

-- What the six calls wrote, one after another, is the text.
use Rattle.buffer.proofs.Pieces.{◌then◌}
use Rattle.report_record.specs.Record.{worked_text}
use Rattle.report_record.proofs.worked_text.Goals as goal

pub returns : goal.returns
unfolding worked_text
returns c =
    let exits = c.record_line.ensures then c.exit_line.ensures then c.exit_line-2.ensures then c.exit_line-3.ensures in
    exits then c.access_line.ensures then c.blocked_line.ensures

-- The text in its form.
use Rattle.report.specs.Report.{report_of}
use Rattle.report.proofs.report.Goals as goal

pub returns : goal.returns
unfolding report_of
returns c = c.text_to.ensures

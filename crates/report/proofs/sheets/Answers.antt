-- The text in its form.
use Rattle.report.specs.Report.{sheets_of}
use Rattle.report.proofs.sheets.Goals as goal

pub returns : goal.returns
unfolding sheets_of
returns c = c.text_to.ensures

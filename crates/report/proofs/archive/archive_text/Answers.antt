-- The refusal of an archive that does not read, or the text of the records walked from place 0.
use Rattle.std.proofs.Common.{◌∙◌}
use Rattle.report.proofs.Records.{archive_refused, archive_read}
use Rattle.report.proofs.archive.archive_text.Goals as goal

pub records_text-requires : goal.records_text-requires
records_text-requires c = c.in-Ok.ensures.0 ∙ c.first_edition.ensures

pub returns-in-Ok : goal.returns-in-Ok
returns-in-Ok c = archive_read c.first_edition.ensures _ _ c.in-Ok.read c.in-Ok.ensures c.records_text.ensures

pub returns-in-Err : goal.returns-in-Err
returns-in-Err c = archive_refused c.first_edition.ensures _ _ c.in-Err.refusal c.in-Err.ensures (rw c.number.ensures at c.archive_refused_line.ensures)

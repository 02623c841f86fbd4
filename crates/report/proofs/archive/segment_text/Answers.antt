-- The record is worked from its own bytes, and its lines or its page are printed.
use Rattle.report.specs.declared.Form.TheVariants.{Lines, Sheet}
use Rattle.report.proofs.Records.{worked_in, run_stands}
use Rattle.report.proofs.archive.segment_text.Goals as goal

pub record_page-requires : goal.record_page-requires
record_page-requires c = run_stands _ c.work-answer.ensures.works c.word2_at-cycle.ensures.0

pub returns-in-Lines : goal.returns-in-Lines
returns-in-Lines c =
    worked_in _ c.work-answer.ensures.works c.word2_at-cycle.ensures.0 c.lend-lent.ensures.room
    Lines c.in-Lines.is c.word4_at-number.ensures c.record_text.ensures

pub returns-in-Sheet : goal.returns-in-Sheet
returns-in-Sheet c =
    worked_in _ c.work-answer.ensures.works c.word2_at-cycle.ensures.0 c.lend-lent.ensures.room
    Sheet c.in-Sheet.is c.word4_at-number.ensures c.record_page.ensures

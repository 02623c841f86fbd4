-- The loop takes a turn of the text with each record; at the end none is left.
use Rattle.report.proofs.Records.{walked, report_start, report_long, report_turn, report_done}
use Rattle.report.proofs.archive.records_text.Goals as goal

pub loop-bytes-init-derived : goal.loop-bytes-init-derived
loop-bytes-init-derived c =
    let o = c.of-bytes-items.ensures in
    rw (c.into_iter-bytes-iterator.ensures.into_iter_gives, o.0, o.1, o.2, o.3) (walked c.args.archive c.requires, tt)

pub loop-bytes-init : goal.loop-bytes-init
loop-bytes-init c =
    let o = c.of-bytes-items.ensures in
    rw c.into_iter-bytes-iterator.ensures.into_iter_gives (report_start c.args.archive c.requires _ _ o.0 o.1 o.2 o.3)

pub segment_text-requires : goal.segment_text-requires
segment_text-requires c = report_long c.loop-bytes.invariant c.in-Some.ensures.steps

pub loop-bytes-preserved : goal.loop-bytes-preserved
loop-bytes-preserved c = report_turn c.loop-bytes.invariant c.in-Some.ensures.steps c.segment_text.ensures

pub returns : goal.returns
returns c = report_done c.loop-bytes.invariant c.in-None.ensures.steps

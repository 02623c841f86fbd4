-- The run holds what passed so far (`Passed`); with no discharge left, the whole.
use Rattle.std.proofs.Common.{arith, length-append, ◌∙◌}
use Rattle.point_flows.specs.PointFlows.{point_blocked}
use Rattle.point_filling.proofs.Passing.{three_front, passed_start, passed_fits, passed_turn, passed_done}
use Rattle.point_filling.proofs.fill_point.Goals as goal

pub chunks_exact-discharge-items-requires : goal.chunks_exact-discharge-items-requires
chunks_exact-discharge-items-requires c = omega (arith, c.accepted.invariant.cycle)

pub loop-discharge-init : goal.loop-discharge-init
loop-discharge-init c =
    let h = rw (← c.accepted.view_is) at c.requires in
    let cut = c.chunks_exact-discharge-items.ensures in
    let units = rw (← c.accepted.view_is) at c.access_discharge.ensures in
    rw (← c.accepted.view_is, c.into_iter-discharge-iterator.ensures.into_iter_gives)
    (passed_start (three_front h.discharged) cut.size cut.rest units h.long (c.fill.ensures.after (λ y e. e)))

pub pass-requires : goal.pass-requires
pass-requires c =
    let s = c.in-Some.ensures.steps in
    let ranges = rw c.accepted.view_is at c.accepted.invariant in
    passed_fits (three_front c.requires.discharged) c.loop-discharge.invariant ranges _ _ s.1.0 s.1.1 c.requires.time

pub loop-discharge-preserved : goal.loop-discharge-preserved
loop-discharge-preserved c =
    let s = c.in-Some.ensures.steps in
    let ranges = rw c.accepted.view_is at c.accepted.invariant in
    rw length-append (passed_turn (three_front c.requires.discharged) c.loop-discharge.invariant ranges _ _ s.1.0 s.1.1 s.0 c.pass.ensures)

pub returns : goal.returns
unfolding point_blocked
returns c =
    let run = passed_done (three_front c.requires.discharged) c.loop-discharge.invariant c.in-None.ensures.steps.1.0 in
    record { run_after = run; value = c.blocked_steps.ensures ∙ rw run }

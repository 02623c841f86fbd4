-- What has arrived grows, and what waits is small; in the end every place holds its step's discharge.
use Rattle.std.proofs.Common.{arith}
use Rattle.platoon.proofs.Serving.{serving_start, waits_no_more, reaches, waits_small, serving_turn, serving_done}
use Rattle.platoon.proofs.serve_steps.Goals as goal

pub loop-i-init : goal.loop-i-init
loop-i-init c = serving_start _ _ _ _ c.arrived-passed.ensures

pub overflow_sub-reached : goal.overflow_sub-reached
overflow_sub-reached c = reaches c.requires c.loop-i.invariant c.loop-i-test.true c.arrived-reached.ensures

pub overflow_add-waiting : goal.overflow_add-waiting
overflow_add-waiting c = omega (arith, waits_small c.requires c.loop-i.invariant c.loop-i-test.true c.arrived-reached.ensures)

pub loop-i-preserved : goal.loop-i-preserved
loop-i-preserved c =
    serving_turn c.requires c.loop-i.invariant c.loop-i-test.true c.arrived-reached.ensures c.loop-i.auto.part c.serve-step.ensures

pub returns-clause-no_more : goal.returns-clause-no_more
returns-clause-no_more c = waits_no_more c.requires c.loop-i.invariant c.loop-i.auto.i-end

pub returns-clause-part : goal.returns-clause-part
returns-clause-part c = serving_done c.loop-i.invariant c.loop-i.auto.part c.loop-i.auto.i-end c.loop-i-test.false

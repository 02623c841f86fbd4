use Rattle.dispersion.proofs.Laws.{disperse_turn, disperse_done}
use Rattle.dispersion.proofs.Platoon.disperse.Goals as goal

pub loop-i-preserved : goal.loop-i-preserved
loop-i-preserved c = disperse_turn c.loop-i.invariant c.requires.discharge_in_bounds c.loop-i-test.true c.step-state.result c.step-state.ensures

pub returns-clause-value : goal.returns-clause-value
returns-clause-value c = (disperse_done c.loop-i.invariant c.loop-i-test.false).0

pub returns-clause-profile_after : goal.returns-clause-profile_after
returns-clause-profile_after c = (disperse_done c.loop-i.invariant c.loop-i-test.false).1

use Rattle.std.proofs.Common.{arith}
use Rattle.dispersion.proofs.Cycles.{turning_start, turn}
use Rattle.dispersion.proofs.Platoon.work_cycles.Goals as goal

pub loop-k-init : goal.loop-k-init
loop-k-init c = rw c.requires.not_moved (turning_start _ _ _ _ _ _)

pub loop-k-preserved : goal.loop-k-preserved
loop-k-preserved c =
    turn c.loop-k.invariant (omega arith) _ _ _ _ c.work_cycle-next.ensures c.cycles_needed-needed.ensures
    c.work_cycle-next.auto.first c.work_cycle-next.auto.second

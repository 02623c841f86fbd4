-- k cycles are worked, and those that need working leave what all do.
use Rattle.dispersion.proofs.Cycles.{Turning}
use Rattle.dispersion.proofs.Platoon.work_cycles.Given as goal

abbrev pub invariant-loop-k : goal.invariant-loop-k
invariant-loop-k l = Turning l.running l.discharge l.turns l.cycles l.initial.first l.initial.second l.first l.second l.state l.needed l.k

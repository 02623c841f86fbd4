-- i steps are written, the rest of the cycle to come.
use Rattle.dispersion.proofs.Laws.{Dispersing}
use Rattle.dispersion.proofs.Platoon.disperse.Given as goal

abbrev pub invariant-loop-i : goal.invariant-loop-i
invariant-loop-i l = Dispersing l.running l.discharge l.initial.profile l.fn.self.state l.profile l.state l.i

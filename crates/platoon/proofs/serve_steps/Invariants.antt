-- The first i places hold what the first i steps discharge.
use Rattle.std.proofs.Common.{length}
use Rattle.platoon.proofs.Serving.{Serving}
use Rattle.platoon.proofs.serve_steps.Given as goal

abbrev pub invariant-loop-i : goal.invariant-loop-i
invariant-loop-i l = Serving l.queue l.g l.gone (length l.initial.part) l.part l.waiting l.passed l.i

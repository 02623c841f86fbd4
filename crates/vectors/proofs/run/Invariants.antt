-- What was said so far is more than what the writer held, and no more cases differ than were read.
use Rattle.std.proofs.Common.{◌≤◌}
use Rattle.vectors.specs.Vectors.{Adds}
use Rattle.vectors.proofs.run.Given as goal

abbrev pub invariant-loop-i : goal.invariant-loop-i
invariant-loop-i g l = Adds (g.W.Write.contents l.initial.output) (g.W.Write.contents l.output) × (l.count ≤ l.i)

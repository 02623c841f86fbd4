-- The loop keeps RoundsLeft: no round has ended the settling, which is that of the rounds left.
use Rattle.balance.specs.Settling.{round_limit}
use Rattle.balance.proofs.Rounds.{RoundsLeft}
use Rattle.balance.proofs.settle.Given as goal

abbrev pub invariant-loop-n : goal.invariant-loop-n
invariant-loop-n l = RoundsLeft round_limit l.balancing.origins l.balancing.destinations l.balancing.proportions l.before l.n

use Rattle.balance.proofs.Rounds.{rounds_start}
use Rattle.balance.proofs.settle.Goals as goal

pub loop-n-init : goal.loop-n-init
loop-n-init c = rounds_start c.start-before.ensures

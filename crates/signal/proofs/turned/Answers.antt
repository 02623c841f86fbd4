-- The step given is the turn, of which the theorem speaks.
use Rattle.std.proofs.Common.{arith, ◌-◌, ◌≡◌}
use Rattle.signal.specs.Turn.{turn}
use Rattle.signal.proofs.Turn.{turned}
use Rattle.signal.proofs.turned.Goals as goal

pub returns-clause-turned : goal.returns-clause-turned
unfolding turn
returns-clause-turned c =
    let before : c.post_before.result.0 ≡ c.args.n - 1 = omega arith in
    rw (c.step_after.ensures, before) (turned c.args.c c.args.n c.requires (omega arith))

use Rattle.std.proofs.Common.{arith}
use Rattle.pair_parts.proofs.Laws.{pair_parts}
use Rattle.arrivals.proofs.Pairs.{none_added}
use Rattle.arrivals.proofs.add_pair.Goals as goal

pub returns-then-v-eq0 : goal.returns-then-v-eq0
returns-then-v-eq0 c = none_added _ _ _ _ _ c.if-v-eq0.true

pub returns : goal.returns
returns c = rw (pair_parts c.args.v c.args.w c.args.arrived.now (omega (arith, c.requires.share))) c.land.ensures

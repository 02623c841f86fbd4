-- A run that holds the pattern in each place is the pattern.
use Rattle.std.proofs.Common.{◌+◌, arith}
use Rattle.lists.specs.Lists.{tab_is}
use Rattle.vectors.specs.Vectors.{pattern}
use Rattle.vectors.proofs.fill_pattern.Goals as goal

pub returns : goal.returns
unfolding pattern
returns c = tab_is (λ k. c.args.first + k) 0 _ _ c.loop-i.invariant.0 (λ k h. omega (arith, c.loop-i.invariant.1 k (omega arith)))

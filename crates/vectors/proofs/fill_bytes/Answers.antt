-- A buffer that holds the pattern in each place is the pattern.
use Rattle.std.proofs.Common.{◌≡◌, ◌+◌, ◌%◌, arith}
use Rattle.lists.specs.Lists.{tab_is}
use Rattle.vectors.specs.Vectors.{byte_pattern}
use Rattle.vectors.proofs.fill_bytes.Goals as goal

pub returns : goal.returns
unfolding byte_pattern
returns c = tab_is (λ k. k % 251) 0 _ _ c.loop-i.invariant.0 (λ k h. let z : 0 + k ≡ k = omega arith in rw z (c.loop-i.invariant.1 k (omega arith)))

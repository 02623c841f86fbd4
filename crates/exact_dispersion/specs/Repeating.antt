-- The repeating flow of an entry, in the terms of dispersion, and how near the reported cycle is to it.
use Prim.Native.Nat.{ℕ, ◌-◌, ◌^◌}
use Rattle.std.proofs.Math.ListN.{length, get_or}
use Rattle.dispersion.specs.Dispersion.{smoothing, divisor_of}
use Rattle.exact_repeating.specs.Repeating.{repeating_flow}
use Rattle.exact_dispersion.specs.ExactDispersion.{ExactFlow}

-- the flow of a segment that was never empty, every cycle discharging alike
unfoldable pub repeating : ExactFlow
repeating running q i = repeating_flow smoothing (divisor_of running - smoothing) (length q) (λ j. get_or q j 0) i

-- in the paper's letters
abbrev pub weight_of : ℕ → ℕ → ℕ
weight_of d c = d ^ c - (d - smoothing) ^ c

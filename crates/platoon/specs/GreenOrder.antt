-- The discharge in green order: each green step discharges the smaller of the rate and what waits.
use Rattle.std.specs.Prelude.{ℕ, ◌*◌, ◌/◌, ◌≤◌, ◌<◌}
use Rattle.std.proofs.Common.{arith, mul-le-mul_right, div-mul-le_self, le-div_iff_mul-le}
use Rattle.std.proofs.Math.Nat.{div-le_of_le-mul}

-- what has arrived grows
pub more_arrived : (all g j k : ℕ) → 0 < g → j ≤ k → j * all / g ≤ k * all / g
more_arrived all g j k pos h =
    (le-div_iff_mul-le {k = g} {x = j * all / g} {y = k * all} pos).1 (omega (arith, div-mul-le_self (j * all) g, mul-le-mul_right all h))

-- and is no more than all
pub arrived_le : (all g k : ℕ) → k ≤ g → k * all / g ≤ all
arrived_le all g k within = div-le_of_le-mul g (mul-le-mul_right all within)

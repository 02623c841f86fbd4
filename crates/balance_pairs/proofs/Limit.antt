-- Laws of `limited`: it is the library's conversion to 32 bits, capped; above the range of 64 bits it is the cap, below it 0.
-- Assumes nothing.
use Rattle.std.proofs.Common.{◌≡◌, ℕ, ◌+◌, ◌-◌, ◌*◌, ◌/◌, ◌^◌, ◌<◌, ◌≤◌, min, true, false, pos, refl, true≢false, le-div_iff_mul-le, arith, ltb-false}
use mathlib.Core.Bool.{false≢true}
use native.Mathlib.Nat.{zero-min}
use Rattle.std.specs.Float.{Float, nan, inf, fin}
use Rattle.std.specs.Float.Ieee.{up, down, lt, to_unsigned}
use Rattle.std.specs.Float.Ieee.Fits.{down_pos}
use Rattle.balance_pairs.specs.Pairs.{limited}

-- a cap above the other cap is none
cap : (a left : ℕ) → left < 2 ^ 32 → min (min a (2 ^ 32 - 1)) left ≡ min a left
cap a left h = omega arith

pub capped : (x : Float) (left : ℕ) → left < 2 ^ 32 → min (to_unsigned 32 x) left ≡ limited x left
unfolding limited to_unsigned
capped nan left h = zero-min left
capped (inf true) left h = zero-min left
capped (inf false) left h = omega arith
capped (fin true m e) left h = zero-min left
capped (fin false m e) left h = cap (m * up e / down e) left h

pub above : (x : Float) (left : ℕ) → left < 2 ^ 64 → lt (fin true 1 (pos 0)) x ≡ true → lt x (fin false 1 (pos 64)) ≡ false → left ≡ limited x left
unfolding limited lt
above nan left h p q = absurd (false≢true p)
above (inf true) left h p q = absurd (true≢false q)
above (inf false) left h p q = refl
above (fin true m e) left h p q = omega (arith, ltb-false 0 (m * up e * 1 + 1 * 2 ^ 64 * down e) q, down_pos e)
above (fin false m e) left h p q =
    let big : 2 ^ 64 * down e ≤ m * up e = omega (arith, ltb-false (m * up e * 1) (1 * 2 ^ 64 * down e) q) in
    let over : 2 ^ 64 ≤ m * up e / down e = (le-div_iff_mul-le (down_pos e)).1 big in
    omega arith

pub below : (x : Float) (left : ℕ) → lt (fin true 1 (pos 0)) x ≡ false → 0 ≡ limited x left
unfolding limited lt
below nan left p = refl
below (inf true) left p = refl
below (inf false) left p = absurd (true≢false p)
below (fin true m e) left p = refl
below (fin false m e) left p = omega (arith, ltb-false 0 (1 * 1 * down e + m * up e * 1) p, down_pos e)

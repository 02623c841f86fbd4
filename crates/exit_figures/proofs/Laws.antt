-- Laws of specs/Laws.antt.
use Rattle.std.specs.Prelude.{ℕ, ◌+◌, ◌*◌, ◌/◌, ◌≤◌, ◌<◌, Bool, true, false, cond, eqb}
use Rattle.std.proofs.Common.{arith, div-mul-le_self, mod-lt, ne_eqb}
use Rattle.std.proofs.Math.Nat.{div-add-mod}
use Rattle.exit_figures.specs.ExitFigures.{permille_of}
use Rattle.exit_figures.specs.Laws.{thousandths_le}

-- the thousandths are the whole part of the share: not above it, and less than one below
pub permille_floor : (part whole : ℕ) → permille_of part whole * whole ≤ 1000 * part
unfolding permille_of
permille_floor part whole = go (eqb whole 0)
  where
    go : (b : Bool) → cond b 0 (1000 * part / whole) * whole ≤ 1000 * part
    go true = omega arith
    go false = div-mul-le_self (1000 * part) whole

pub permille_next : (part whole : ℕ) → 0 < whole → 1000 * part < (permille_of part whole + 1) * whole
unfolding permille_of
permille_next part whole pos = rw (ne_eqb whole 0 (λ e. omega arith)) (omega (arith, div-add-mod (1000 * part) whole, mod-lt (1000 * part) {m = whole} pos))

-- at most 1000 of a part
pub permille_le : (part whole : ℕ) → part ≤ whole → permille_of part whole ≤ 1000
unfolding permille_of
permille_le part whole h = go (eqb whole 0)
  where
    go : (b : Bool) → cond b 0 (1000 * part / whole) ≤ 1000
    go true = omega arith
    go false = thousandths_le part whole h

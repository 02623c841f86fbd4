-- The library's test is the definition's: a NaN and the infinities are not finite.
use Rattle.std.proofs.Common.{◌≡◌, refl, Float}
use Rattle.std.specs.Float.{nan, inf, fin, float_is_finite}
use Rattle.std.specs.Float.Ieee.Scale.{finite}

pub is_finite_is : (x : Float) → float_is_finite x ≡ finite x
unfolding float_is_finite
is_finite_is nan = refl
is_finite_is (inf s) = refl
is_finite_is (fin s m e) = refl

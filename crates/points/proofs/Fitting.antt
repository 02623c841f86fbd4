-- The test of the points given, as a list's test of each item.
use Rattle.std.specs.Prelude.{ℕ, ◌&&◌, ◌≡◌, refl, List, [], ◌∷◌}
use Rattle.std.proofs.Common.{ap}
use Rattle.std.specs.List.{list_all}
use Rattle.points.specs.declared.Point.{Point}
use Rattle.points.specs.Points.{point_fits, all_fit}

pub all_fit_list : (far : ℕ) (ps : List Point) → all_fit far ps ≡ list_all (point_fits far) ps
unfolding all_fit
all_fit_list far [] = refl
all_fit_list far (p ∷ ps) = ap (λ b. point_fits far p && b) (all_fit_list far ps)

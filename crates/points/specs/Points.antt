-- Points along a segment (the paper's driveways): those given, and the test of refusal 20.
use Rattle.std.specs.Prelude.{ℕ, Bool, true, ◌&&◌, List, [], ◌∷◌, leb, take}
use Rattle.limits.specs.Limits.{least_running, least_headway, most_headway}
use Rattle.points.specs.declared.Point.{Point}
use Rattle.points.specs.declared.Points.{Points}

-- a working takes up to eight
abbrev pub most_points : ℕ
most_points = 8

-- those given, in order; what stands beyond their count is not looked at
unfoldable pub given : Points → List Point
given ps = take ps.count ps.at

-- a running time from the shortest to the record's, and a headway in the record's range
unfoldable pub point_fits : (farthest : ℕ) → Point → Bool
point_fits farthest p =
    leb least_running p.running && leb p.running farthest && leb least_headway p.headway && leb p.headway most_headway

unfoldable pub all_fit : (farthest : ℕ) → List Point → Bool
all_fit farthest [] = true
all_fit farthest (p ∷ ps) = point_fits farthest p && all_fit farthest ps

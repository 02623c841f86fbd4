-- The places in front of the eight as a loop meets them, and what the test says of each point.
use Rattle.std.specs.Prelude.{ℕ, zero, suc, ◌+◌, ◌≤◌, ◌<◌, true, ◌&&◌, ◌≡◌, List, [], ◌∷◌, map, leb, length, take, drop, get_or}
use Rattle.std.proofs.Common.{arith, add-one, sym, ◌∙◌, drop-cons, length-take-le, get_or-take, leb-true}
use Rattle.std.proofs.lemmas.List.{length-map}
use Rattle.limits.specs.Limits.{least_running, least_headway, most_headway}
use Rattle.refusal.specs.Refusal.{both}
use Rattle.points.specs.declared.Point.{Point}
use Rattle.points.specs.Points.{point_fits, all_fit}

-- an array of structs has as many as the array of what they are stored as
pub mapped_length : {A B : Type 0} (f : A → B) (l : List A) {n : ℕ} → length (map f l) ≡ n → length l ≡ n
mapped_length f l e = sym (length-map l f) ∙ e

-- the first n places, n no more than there are
module _ (at : List Point) (n : ℕ) (room : n ≤ length at) where
  pub front_length : length (take n at) ≡ n
  front_length = length-take-le n at room

  pub front_at : (i : ℕ) → i < n → (d : Point) → get_or (take n at) i d ≡ get_or at i d
  front_at i h d = get_or-take n at i d h

  pub front_next : (i : ℕ) → i < n → (d : Point) → drop i (take n at) ≡ get_or at i d ∷ drop (i + 1) (take n at)
  front_next i h d = rw add-one (drop-cons (take n at) i d (omega (arith, front_length)) ∙ rw (front_at i h d))

-- a point that fits lies no farther than the record's end
fits_far : (far : ℕ) (p : Point) → point_fits far p ≡ true → p.running ≤ far
unfolding point_fits
fits_far far p e =
    let a = both (leb least_running p.running && leb p.running far && leb least_headway p.headway) (leb p.headway most_headway) e in
    let b = both (leb least_running p.running && leb p.running far) (leb least_headway p.headway) a.0 in
    leb-true p.running far (both (leb least_running p.running) (leb p.running far) b.0).1

pub all_far : (far : ℕ) (ps : List Point) (d : Point) (i : ℕ) → all_fit far ps ≡ true → i < length ps → (get_or ps i d).running ≤ far
unfolding all_fit
all_far far [] d i e h = absurd (omega arith)
all_far far (p ∷ ps) d zero e h = fits_far far p (both (point_fits far p) (all_fit far ps) e).0
all_far far (p ∷ ps) d (suc i) e h = all_far far ps d i (both (point_fits far p) (all_fit far ps) e).1 (omega arith)

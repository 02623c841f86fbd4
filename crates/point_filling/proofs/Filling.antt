-- The loop over the points: i runs filled and counted, the others to come.
use Rattle.std.proofs.Common.{ℕ, zero, suc, ◌+◌, ◌-◌, ◌*◌, ◌≤◌, ◌<◌, arith, add-one, true, ◌≡◌, refl, sym, ◌∙◌, List, ◌++◌, map}
use Rattle.std.proofs.Common.{length, take, drop, set, get_or, replicate, length-set, drop_of_length-le, drop-cons}
use Rattle.std.proofs.Math.Numerals.{unary_clauses}
use Rattle.std.proofs.Math.ListN.{length-map}
use Rattle.std.proofs.Math.Nat.{sub-zero}
use Rattle.std.proofs.Math.Seq.{sets, sets-eq}
use Rattle.runs.specs.PerRun.{Worked, part, part_length, worked_turn, worked_done}
use Rattle.segment.specs.declared.Segment.{Segment}
use Rattle.ranges.specs.Ranges.{Ranges}
use Rattle.points.specs.declared.Point.{Point}
use Rattle.points.specs.declared.Points.{Points}
use Rattle.points.specs.Points.{most_points, all_fit}
use Rattle.points.specs.Laws.{front_length, all_far}
use Rattle.point_flows.specs.PointFlows.{point_run, point_runs, point_blocked, point_counts}
use Rattle.point_filling.specs.Steps.{Discharged, PointFits, FillFits}

pub record Filling (s : Segment) (ps : List Point) (out₀ out blocked : List ℕ) (i : ℕ) : Type 0 where
  pub few : length ps ≤ most_points
  pub runs : Worked (λ p run. point_run s p) s.cycle (length ps) ps out₀ out i
  pub eight : length blocked ≡ most_points
  pub counts : sets (replicate most_points 0) 0 (map (point_blocked s) ps) ≡ sets blocked i (map (point_blocked s) (drop i ps))

-- the part of the places that the loop goes over: so many as are given, with room for a run of each
module _ {s : Segment} {ps : Points} {out : List ℕ} (h : FillFits s ps out) (eight : length ps.at ≡ most_points) where
  given_length : length (take (ps.count - 0) ps.at) ≡ ps.count
  given_length = rw sub-zero (front_length ps.at ps.count (omega (arith, h.few)))

  pub given_room : length (take (ps.count - 0) ps.at) * s.cycle ≤ length out
  given_room = rw given_length (omega (arith, h.room))

module _ {s : Segment} {ps : List Point} {out₀ out blocked : List ℕ} {i : ℕ} (r : Filling s ps out₀ out blocked i) where
  module _ (more : i < length ps) (d : Point) (room : length ps * s.cycle ≤ length out₀) where
    -- what a point asks
    pub filling_fits : Ranges s → {discharges : List ℕ} → Discharged s discharges → all_fit s.running ps ≡ true →
        PointFits s (get_or ps i d) discharges (part s.cycle i out)
    filling_fits ranges h fit =
        record {
          discharged = h;
          time = omega (arith, all_far s.running ps d i fit more, ranges.running);
          long = part_length r.runs more room;
        }

    pub filling_turn : (ys : List ℕ) → length ys ≡ length (part s.cycle i out) → ys ≡ point_run s (get_or ps i d) → {v : ℕ} →
        v ≡ point_blocked s (get_or ps i d) →
        Filling s ps out₀ (take (i * s.cycle) out ++ (ys ++ drop (i * s.cycle + s.cycle - i * s.cycle) (drop (i * s.cycle) out)))
        (set blocked i v) (i + 1)
    filling_turn ys kept is ev =
        record {
          few = r.few;
          runs = worked_turn r.runs more room refl d ys kept is;
          eight = length-set blocked i _ ∙ r.eight;
          counts = r.counts ∙ rw (drop-cons ps i d, ev, add-one);
        }

  module _ (end : length ps ≤ i) where
    pub filling_runs : out ≡ point_runs s ps out₀
    unfolding point_runs
    filling_runs = worked_done r.runs end refl

    pub filling_counts : blocked ≡ point_counts s ps
    unfolding point_counts
    filling_counts =
        let counts = map (point_blocked s) ps in
        let l : length counts ≡ length ps = length-map ps (point_blocked s) in
        let e : sets (replicate most_points 0) 0 counts ≡ counts ++ drop (0 + length counts) (replicate most_points 0) =
        sets-eq counts (replicate most_points 0) 0 (omega (arith, l, r.few)) in
        let none : drop i ps ≡ _ = drop_of_length-le ps {i = i} end in
        sym (sym e ∙ r.counts ∙ rw none) ∙ rw (l, zeros_left (length ps))
      where
        zeros : (k m : ℕ) → drop {A = ℕ} m (replicate k 0) ≡ replicate (k - m) 0
        zeros zero zero = refl
        zeros zero (suc m) = let e : 0 - suc m ≡ 0 = omega arith in rw e
        zeros (suc k) zero = simp unary_clauses refl
        zeros (suc k) (suc m) = simp unary_clauses (zeros k m)

        zeros_left : (m : ℕ) → drop {A = ℕ} (0 + m) (replicate most_points 0) ≡ replicate (most_points - m) 0
        zeros_left m = let e : 0 + m ≡ m = omega arith in rw e (zeros 8 m)

-- Laws that stood in specs/Holds.antt: every point's run is near the exact flows: what lands is as near as the arrivals of its entry, and three
-- entries are added. The laws take the exact flow of an entry and its distance as parameters.
use Prim.Native.Nat.{ℕ, suc, ◌+◌, ◌-◌, ◌*◌, ◌≤◌, ◌<◌}
use native.Mathlib.Omega.{arith}
use Rattle.std.specs.Prelude.{true, ◌≡◌, refl, List, take}
use Rattle.std.proofs.Math.Path.{ap}
use Rattle.std.proofs.Math.ListN.{length}
use Rattle.limits.specs.Limits.{most_running}
use Rattle.signal.specs.Turn.{earlier}
use Rattle.signal.proofs.Turn.{earlier_pos, earlier_le}
use Rattle.segment.specs.declared.Entry.{Entry}
use Rattle.segment.specs.declared.Segment.{Segment}
use Rattle.metering.specs.Metering.{access_discharge}
use Rattle.ranges.specs.Ranges.{Ranges}
use Rattle.entries.specs.Entries.{entry_profile}
use Rattle.entries.proofs.Laws.{entry_length}
use Rattle.dispersion.specs.Dispersion.{arrival_time_of}
use Rattle.exact.specs.Fraction.{WithinParts, parts_whole}
use Rattle.exact.proofs.Exit.{exit_within}
use Rattle.exact_dispersion.specs.ExactDispersion.{ExactFlow, Near}
use Rattle.propagation.specs.Propagation.{cycles}
use Rattle.accuracy.specs.Near.{EntriesNear}
use Rattle.accuracy.proofs.Near.{entries_empty, entries_repeating}
use Rattle.points.specs.declared.Point.{Point}
use Rattle.points.specs.declared.Points.{Points}
use Rattle.points.specs.Points.{given, all_fit}
use Rattle.points.specs.Laws.{front_length, front_at, all_far}
use Rattle.point_flows.specs.PointFlows.{point_arrivals, passes_in, point_flow, point_runs}
use Rattle.point_flows.specs.PointAccuracy.{exact_point, no_point, point_at, PointsWithin, PointsAccurate}
use Rattle.point_flows.proofs.Laws.{passes_is, point_number}

module _ {u d : ℕ} {exact : ExactFlow} (s : Segment) (p : Point) where
  -- what of an entry lands in a step is as near as its arrivals
  passes_within : (e : Entry) (step : ℕ) → Near u d cycles exact p.running (entry_profile s.cycle e) → 0 < step → step ≤ s.cycle →
      WithinParts u d (passes_in s p e step) (exact p.running (entry_profile s.cycle e) (earlier s.cycle (arrival_time_of p.running) step))
  unfolding point_arrivals
  passes_within e step near first last =
      let c = s.cycle in
      let i = earlier c (arrival_time_of p.running) step in
      let before = i - 1 in
      let low = earlier_pos c (arrival_time_of p.running) step in
      let high = earlier_le c (arrival_time_of p.running) step (omega arith) in
      let n : suc before ≡ i = omega arith in
      rw (passes_is s p e step first last) (rw n at (near.arrival before (omega (arith, entry_length c e))))

  -- a point's flow: three entries, and access, which is exact
  pub point_within : EntriesNear u d exact p.running s → (step : ℕ) → 0 < step → step ≤ s.cycle →
      WithinParts u (3 * d) (point_flow s p step) (exact_point exact s p step)
  unfolding point_flow exact_point
  point_within near step first last =
      let a = access_discharge s in
      let x = passes_in s p s.left step in
      let y = passes_in s p s.through step in
      let z = passes_in s p s.right step in
      let e : point_flow s p step ≡ x + y + z + a = omega arith in
      rw e
      (exit_within a (passes_within s.left step near.left first last) (passes_within s.through step near.through first last)
      (passes_within s.right step near.right first last))

-- ---- of the runs that a filling leaves, where there are places for the points given

module _ (s : Segment) (ps : Points) (out : List ℕ) (room : ps.count ≤ length ps.at) where
  -- near an exact flow by the distance of the entries
  runs_within : {u d : ℕ} {exact : ExactFlow} (most : ℕ) → 3 * d ≡ u * most → ((i : ℕ) → i < ps.count → EntriesNear u d exact (point_at ps i).running s) →
      PointsWithin most exact s ps (point_runs s (given ps) out)
  unfolding given
  runs_within {u} most e near i step h first last =
      rw (
        point_number s no_point (take ps.count ps.at) out i step (omega (arith, front_length ps.at ps.count room)) first last,
        front_at ps.at ps.count room i h no_point,
      )
      (parts_whole u most _ (rw e at (point_within s (point_at ps i) (near i h) step first last)))

  -- no point that fits lies beyond the longest running time
  far : Ranges s → all_fit s.running (given ps) ≡ true → (i : ℕ) → i < ps.count → (point_at ps i).running ≤ most_running
  unfolding given
  far r fit i h =
      let same = ap (λ (p : Point). p.running) (front_at ps.at ps.count room i h no_point) in
      let inside : i < length (take ps.count ps.at) = omega (arith, front_length ps.at ps.count room) in
      omega (arith, all_far s.running (take ps.count ps.at) no_point i fit inside, r.running.1, same)

  pub points_accurate : Ranges s → all_fit s.running (given ps) ≡ true → PointsAccurate s ps (point_runs s (given ps) out)
  points_accurate r fit =
      record {
        flows = runs_within 3 refl (λ i h. entries_empty (point_at ps i).running s);
        repeats = runs_within 6 refl (λ i h. entries_repeating 1 (omega arith) (point_at ps i).running (far r fit i h) s r (omega arith));
        closer = runs_within 4 refl (λ i h. entries_repeating 3 (omega arith) (point_at ps i).running (far r fit i h) s r (omega arith));
      }

-- Laws that stood in specs/Holds.antt: Demand 3 holds of every filling: its parts are the laws of exact and pair_parts, at the definitions of the working.
use Prim.Native.Nat.{ℕ, suc, ◌+◌, ◌-◌, ◌*◌, ◌≤◌, ◌<◌}
use native.Mathlib.Omega.{arith}
use Rattle.std.specs.Prelude.{◌≡◌, List, ◌++◌, take, drop}
use Rattle.std.proofs.Math.Path.{refl, sym}
use Rattle.std.proofs.Common.{ap, ◌∙◌, take_at}
use Rattle.std.proofs.Math.ListN.{length, get_or}
use Rattle.signal.specs.Turn.{earlier}
use Rattle.signal.proofs.Turn.{earlier_pos, earlier_le}
use Rattle.signal.proofs.Landing.{landing_is}
use Rattle.segment.specs.declared.Entry.{Entry}
use Rattle.segment.specs.declared.Segment.{Segment}
use Rattle.ranges.specs.Ranges.{Ranges}
use Rattle.metering.specs.Metering.{discharge_volume}
use Rattle.entries.specs.Entries.{entry_profile}
use Rattle.entries.proofs.Laws.{entry_length}
use Rattle.dispersion.specs.Dispersion.{arrival_time_of, reported}
use Rattle.dispersion.specs.Cycles.{reported_length}
use Rattle.pair_parts.proofs.Laws.{pair_length, pair_shared}
use Rattle.exact.specs.Fraction.{WithinParts, parts_whole}
use Rattle.exact.specs.Exit.{pair_within}
use Rattle.exact.proofs.Exit.{exit_within}
use Rattle.exact_dispersion.specs.ExactDispersion.{ExactFlow, Near, arrived, last_arrival}
use Rattle.exact_dispersion.proofs.Laws.{entry_balanced, arrived_last}
use Rattle.arrivals.proofs.Laws.{number_of}
use Rattle.propagation.specs.Propagation.{Profiles, cycles_before, cycles, pair_flow, entry_arrivals, pair_of, lands_in, flow_at, filled_of}
use Rattle.propagation.specs.Steps.{RowsFit}
use Rattle.accuracy.specs.Accuracy.{exact_of, exact_at, output_at, last_cycle_in, arrived_in, EntryMeets, FlowsWithin, Accurate}
use Rattle.accuracy.specs.Near.{EntriesNear}
use Rattle.accuracy.proofs.Near.{entries_empty, entries_repeating}

module _ (s : Segment) (e : Entry) where
  arrivals_length : length (entry_arrivals s e) ≡ s.cycle
  unfolding entry_arrivals
  arrivals_length = reported_length s.running (entry_profile s.cycle e) cycles_before ∙ entry_length s.cycle e

  -- what lands in a step is as near to its exact share as the arrivals to the exact flow, and one flow unit more
  lands_within : {u d : ℕ} {exact : ExactFlow} (v step : ℕ) → 0 < u → Near u d cycles exact s.running (entry_profile s.cycle e) →
      v ≤ discharge_volume s.cycle e → 0 < step → step ≤ s.cycle →
      WithinParts u (d + u) (lands_in s e v step) (exact_of exact s e v (earlier s.cycle (arrival_time_of s.running) step))
  unfolding lands_in pair_of exact_of entry_arrivals
  lands_within v step unit near h pos fits =
      let c = s.cycle in
      let t = arrival_time_of s.running in
      let w = discharge_volume c e in
      let i = earlier c t step in
      let before = i - 1 in
      let first = earlier_pos c t step in
      let last = earlier_le c t step (omega arith) in
      let n : suc before ≡ i = omega arith in
      let l = arrivals_length in
      rw (landing_is c t step (pair_of s e v) pos fits (omega (arith, pair_length v w (entry_arrivals s e))))
      (pair_within v w (entry_arrivals s e) before unit h (omega arith) (rw n at (near.arrival before (omega (arith, entry_length c e)))))

  entry_meets : (v : ℕ → ℕ) → EntryMeets s e v
  unfolding entry_arrivals pair_of last_arrival
  entry_meets v =
      let q = entry_profile s.cycle e in
      let last : s.cycle ≡ length q = sym (entry_length s.cycle e) in
      record {
        balanced = rw (ap (λ (n : ℕ). get_or (reported s.running q cycles) (n - 1) 0) last) (entry_balanced s.running q cycles_before);
        shared = λ pos exit h. pair_shared (v exit) (discharge_volume s.cycle e) (entry_arrivals s e) (omega arith);
      }

-- an exit's flow: three pairs, and access, which is exact
flow_within : {u d : ℕ} {exact : ExactFlow} (s : Segment) (rows : List (List ℕ)) → RowsFit s rows → EntriesNear u d exact s.running s →
    (exit step : ℕ) → 0 < step → step ≤ s.cycle → WithinParts u (3 * (d + u)) (flow_at s rows exit step) (exact_at exact s rows exit step)
unfolding flow_at exact_at
flow_within s rows fit near exit step first last =
    let a = pair_flow rows 3 exit in
    let x = lands_in s s.left (pair_flow rows 0 exit) step in
    let y = lands_in s s.through (pair_flow rows 1 exit) step in
    let z = lands_in s s.right (pair_flow rows 2 exit) step in
    let e : a + x + y + z ≡ x + y + z + a = omega arith in
    rw e
    (exit_within a (lands_within s s.left (pair_flow rows 0 exit) step near.unit near.left (fit.left exit) first last)
    (lands_within s s.through (pair_flow rows 1 exit) step near.unit near.through (fit.through exit) first last)
    (lands_within s s.right (pair_flow rows 2 exit) step near.unit near.right (fit.right exit) first last))

-- ---- what a filling leaves

module _ (s : Segment) (rows : List (List ℕ)) (p : Profiles) where
  output_is : (exit step : ℕ) → exit < 4 → 0 < step → step ≤ s.cycle → output_at s (filled_of s rows p) exit step ≡ flow_at s rows exit step
  unfolding output_at filled_of
  output_is exit step h first last = number_of s.cycle (flow_at s rows) (drop (4 * s.cycle) p.output) exit step h first last

  -- the front of a work profile is a cycle of the right entry
  cycle_front : (k : ℕ) (rest : List ℕ) → take s.cycle (reported s.running (entry_profile s.cycle s.right) (suc k) ++ rest)
      ≡ reported s.running (entry_profile s.cycle s.right) (suc k)
  cycle_front k rest =
      take_at _ rest s.cycle (reported_length s.running (entry_profile s.cycle s.right) k ∙ entry_length s.cycle s.right)

  last_cycle_is : last_cycle_in s (filled_of s rows p) ≡ reported s.running (entry_profile s.cycle s.right) cycles
  unfolding last_cycle_in filled_of
  last_cycle_is = cycle_front cycles_before (drop s.cycle p.first)

  arrived_is : arrived_in s (filled_of s rows p) ≡ arrived s.running (entry_profile s.cycle s.right) cycles
  unfolding arrived_in filled_of
  arrived_is =
      rw (cycle_front (cycles_before - 1) (drop s.cycle p.second), cycle_front cycles_before (drop s.cycle p.first))
      (sym (arrived_last s.running (entry_profile s.cycle s.right) (cycles_before - 1)))

  -- near an exact flow by the distance of its entries
  filled_within : {u d : ℕ} {exact : ExactFlow} (most : ℕ) → 3 * (d + u) ≡ u * most → RowsFit s rows → EntriesNear u d exact s.running s →
      FlowsWithin most exact s rows (filled_of s rows p)
  filled_within {u} most e fit near exit step h first last =
      rw (output_is exit step h first last) (parts_whole u most _ (rw e at (flow_within s rows fit near exit step first last)))

  pub filled_accurate : Ranges s → RowsFit s rows → Accurate s rows (filled_of s rows p)
  unfolding flow_at
  filled_accurate r fit =
      record {
        flows = filled_within 6 refl fit (entries_empty s.running s);
        repeats = filled_within 9 refl fit (entries_repeating 1 (omega arith) s.running r.running.1 s r (omega arith));
        closer = filled_within 7 refl fit (entries_repeating 3 (omega arith) s.running r.running.1 s r (omega arith));
        landed = output_is;
        left = entry_meets s s.left (pair_flow rows 0);
        through = entry_meets s s.through (pair_flow rows 1);
        right = rw (arrived_is, last_cycle_is) (entry_meets s s.right (pair_flow rows 2));
      }

-- Laws of specs/Largest.antt: The largest flow of a pair, and of an exit in a step.
use Rattle.std.specs.Prelude.{ℕ, zero, suc, ◌≤◌, ◌<◌, List}
use native.Mathlib.Omega.{arith}
use Rattle.limits.specs.Limits.{entry_limit, flow_limit}
use Rattle.movements.specs.Movements.{flow_units}
use Rattle.segment.specs.declared.Entry.{Entry}
use Rattle.segment.specs.declared.Segment.{Segment}
use Rattle.ranges.specs.Ranges.{Ranges, EntryRanges}
use Rattle.metering.specs.Metering.{discharge_volume}
use Rattle.metering.proofs.Metering.{discharge_volume_entry}
use Rattle.entries.specs.Entries.{entry_profile}
use Rattle.entries.proofs.Laws.{entry_length, entry_le}
use Rattle.dispersion.specs.Dispersion.{arrival_time_of}
use Rattle.dispersion.specs.Cycles.{reported_length, reported_le}
use Rattle.arrivals.proofs.Laws.{lands_le}
use Rattle.propagation.specs.Propagation.{cycles_before, cycles, pair_flow, entry_arrivals, pair_of, lands_in, flow_at}
use Rattle.propagation.specs.Steps.{RowsFit}
use Rattle.propagation.specs.Largest.{largest_flow}

-- no more of an entry lands in a step than its saturation brings
pub lands_in_le : (s : Segment) (e : Entry) (v k : ℕ) → EntryRanges s.cycle e → v ≤ discharge_volume s.cycle e → 0 < k → k ≤ s.cycle →
    lands_in s e v k ≤ flow_units flow_limit
unfolding lands_in pair_of entry_arrivals
lands_in_le s e v k r share pos fits =
    let c = s.cycle in
    let q = entry_profile c e in
    lands_le c (arrival_time_of s.running) k v _ (flow_units flow_limit) _ pos fits
    (omega (arith, reported_length s.running q cycles_before, entry_length c e)) (omega (arith, share))
    (reported_le s.running (flow_units flow_limit) q cycles (entry_le c e r))

module _ (s : Segment) (rows : List (List ℕ)) (r : Ranges s) (fit : RowsFit s rows) where
  pub pair_flow_le : (i j : ℕ) → i < 4 → pair_flow rows i j ≤ flow_units entry_limit
  pair_flow_le zero j h = omega (arith, fit.left j, discharge_volume_entry s.cycle s.left, r.left.volume)
  pair_flow_le (suc zero) j h = omega (arith, fit.through j, discharge_volume_entry s.cycle s.through, r.through.volume)
  pair_flow_le (suc (suc zero)) j h = omega (arith, fit.right j, discharge_volume_entry s.cycle s.right, r.right.volume)
  pair_flow_le (suc (suc (suc zero))) j h = omega (arith, fit.access j, r.access)
  pair_flow_le (suc (suc (suc (suc i)))) j h = absurd (omega arith)

  pub flow_le : (j k : ℕ) → 0 < k → k ≤ s.cycle → flow_at s rows j k ≤ largest_flow
  unfolding flow_at
  flow_le j k pos fits =
      omega (
        arith,
        pair_flow_le 3 j (omega arith),
        lands_in_le s s.left (pair_flow rows 0 j) k r.left (fit.left j) pos fits,
        lands_in_le s s.through (pair_flow rows 1 j) k r.through (fit.through j) pos fits,
        lands_in_le s s.right (pair_flow rows 2 j) k r.right (fit.right j) pos fits,
      )

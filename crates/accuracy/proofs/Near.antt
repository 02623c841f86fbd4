-- Laws of specs/Near.antt: Each signalised entry's arrivals are near an exact flow: what the distances of exits and of points follow from.
use Rattle.std.specs.Prelude.{ℕ, ◌+◌, ◌*◌, ◌^◌, ◌≤◌, ◌<◌, length}
use Rattle.std.proofs.Common.{arith}
use Rattle.limits.specs.Limits.{least_cycle, most_running, flow_limit}
use Rattle.movements.specs.Movements.{flow_units}
use Rattle.segment.specs.declared.Entry.{Entry}
use Rattle.segment.specs.declared.Segment.{Segment}
use Rattle.ranges.specs.Ranges.{Ranges, EntryRanges}
use Rattle.entries.specs.Entries.{entry_profile}
use Rattle.entries.proofs.Laws.{entry_length, entry_le}
use Rattle.exact.specs.Fraction.{Above}
use Rattle.exact_dispersion.specs.ExactDispersion.{Near}
use Rattle.exact_dispersion.proofs.Laws.{near_empty}
use Rattle.exact_dispersion.specs.Repeating.{repeating}
use Rattle.exact_dispersion.proofs.Repeating.{repeating_above, near_repeating}
use Rattle.propagation.specs.Propagation.{cycles_before, cycles}
use Rattle.accuracy.specs.Accuracy.{from_empty}
use Rattle.accuracy.specs.Near.{EntriesNear, halvings}

-- from an empty segment: within one, whatever the running time
pub entries_empty : (running : ℕ) (s : Segment) → EntriesNear 1 1 from_empty running s
entries_empty running s =
    record {
      unit = omega arith;
      left = near_empty running _ cycles_before;
      through = near_empty running _ cycles_before;
      right = near_empty running _ cycles_before;
    }

module _ (u : ℕ) (small : u * flow_units flow_limit ≤ 2 ^ halvings) (running : ℕ) (limit : running ≤ most_running) where
  module _ (c : ℕ) (long : least_cycle ≤ c) (e : Entry) (r : EntryRanges c e) where
    enough : 42 * halvings ≤ cycles_before * length (entry_profile c e)
    enough = omega (arith, entry_length c e)

    pub entry_above : (i : ℕ) → Above u (from_empty running (entry_profile c e) i) (repeating running (entry_profile c e) i)
    entry_above = repeating_above u (flow_units flow_limit) halvings cycles_before running (entry_profile c e) limit (entry_le c e r) small enough

    entry_near : 0 < u → Near u (u + 1) cycles repeating running (entry_profile c e)
    entry_near = near_repeating u (flow_units flow_limit) halvings cycles_before running (entry_profile c e) limit (entry_le c e r) small enough

  -- within 1 + 1 / u
  pub entries_repeating : (s : Segment) → Ranges s → 0 < u → EntriesNear u (u + 1) repeating running s
  entries_repeating s r unit =
      let near = entry_near s.cycle r.cycle.0 in
      record {
        unit = unit;
        left = near s.left r.left unit;
        through = near s.through r.through unit;
        right = near s.right r.right unit;
      }

-- what the cycles before the reported one leave of an empty start is at most 2^-21 of a flow unit an entry
pub left_after : (running c : ℕ) (e : Entry) → running ≤ most_running → least_cycle ≤ c → EntryRanges c e → (i : ℕ)
    → Above (2 ^ 21) (from_empty running (entry_profile c e) i) (repeating running (entry_profile c e) i)
left_after running c e limit long r = entry_above (2 ^ 21) (omega arith) running limit c long e r

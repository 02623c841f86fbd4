-- The cycle of one entry, and of a segment's three.
use Rattle.std.specs.Prelude.{ℕ, ◌*◌, min, ◌≤◌, ◌<◌, false, ◌≡◌, List, ◌++◌, length, drop}
use Rattle.limits.specs.Limits.{least_cycle, most_cycle}
use Rattle.lists.specs.Lists.{sum, number_at}
use Rattle.runs.specs.Runs.{run_at}
use Rattle.movements.specs.Movements.{flow_units}
use Rattle.signal.specs.Greens.{green_step, in_green}
use Rattle.segment.specs.declared.Entry.{Entry}
use Rattle.segment.specs.declared.Segment.{Segment}
use Rattle.ranges.specs.Ranges.{EntryRanges}
use Rattle.metering.specs.Metering.{discharge_volume}
use Rattle.platoon.specs.Discharge.{carried, green_arrivals, profile_of}
use Rattle.platoon.specs.Steps.{waits_in}

unfoldable pub entry_profile : ℕ → Entry → List ℕ
entry_profile c e = profile_of c e.green e.saturation e.arriving (discharge_volume c e)

-- what a profile is filled from: the record's cycle and entry, the discharge volume, and a run of the cycle's length
pub record ProfileFits (c : ℕ) (e : Entry) (o : ℕ) (run : List ℕ) : Type 0 where
  pub cycle : (least_cycle ≤ c) × (c ≤ most_cycle)
  pub entry : EntryRanges c e
  pub volume : o ≡ discharge_volume c e
  pub long : length run ≡ c

-- a segment's three in order, a run each, in front of a profile; numbers beyond stay
unfoldable pub entry_profiles : Segment → List ℕ → List ℕ
entry_profiles s p =
    entry_profile s.cycle s.left
    ++ (entry_profile s.cycle s.through ++ (entry_profile s.cycle s.right ++ drop (3 * s.cycle) p))

-- room for the three runs
pub record ProfilesFit (s : Segment) (profile : List ℕ) : Type 0 where
  pub room : 3 * s.cycle ≤ length profile

-- a profile that has them in front
pub record EntryRuns (s : Segment) (profile : List ℕ) : Type 0 where
  pub left : run_at s.cycle 0 profile ≡ entry_profile s.cycle s.left
  pub through : run_at s.cycle 1 profile ≡ entry_profile s.cycle s.through
  pub right : run_at s.cycle 2 profile ≡ entry_profile s.cycle s.right

-- what the paper says of an entry's discharge, read from a run of C numbers: o is the discharge volume, so that a cycle carries T
pub record EntryDischarge (c : ℕ) (e : Entry) (o : ℕ) (run : List ℕ) : Type 0 where
  -- green step k discharges the smaller of 1000·saturation and what waits
  pub green : (k : ℕ) → 0 < k → k ≤ e.green.steps →
      number_at run (green_step c e.green k)
      ≡ min (flow_units e.saturation) (waits_in c e.green (carried c o) (green_arrivals (carried c o) e.arriving) run k)
  -- other steps discharge 0
  pub red : (s : ℕ) → 0 < s → s ≤ c → in_green c e.green s ≡ false → number_at run s ≡ 0
  -- the cycle discharges T, which is O·C
  pub total : sum run ≡ o * c

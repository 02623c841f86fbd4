-- The filling entry by entry, and what each step asks of the numbers that it is lent.
use Rattle.std.specs.Prelude.{ℕ, ◌*◌, ◌≤◌, ◌<◌, ◌≡◌, List, [], ◌++◌, length, drop, get_or}
use Rattle.std.proofs.Common.{arith}
use Rattle.limits.specs.Limits.{least_cycle, most_cycle, most_running}
use Rattle.segment.specs.declared.Entry.{Entry}
use Rattle.segment.specs.declared.Segment.{Segment}
use Rattle.ranges.specs.Ranges.{EntryRanges}
use Rattle.metering.specs.Metering.{discharge_volume, access_discharge}
use Rattle.entries.specs.Entries.{entry_profile}
use Rattle.dispersion.specs.Dispersion.{arrival_time_of, reported}
use Rattle.arrivals.specs.Arrivals.{run_limit, entry_added}
use Rattle.arrivals.specs.Arrivals as arrivals
use Rattle.propagation.specs.Propagation.{Profiles, profiles, cycles_before, cycles, pair_flow}

-- a discharge dispersed, its last cycle shared and landed, the last two cycles left in the work profiles
unfoldable pub spread_step : (running units : ℕ) → List ℕ → List ℕ → Profiles → Profiles
spread_step running units row q p =
    profiles (entry_added (length q) (arrival_time_of running) units (reported running q cycles) row p.output)
    (reported running q cycles ++ drop (length q) p.first)
    (reported running q cycles_before ++ drop (length q) p.second)

pub record SpreadFits (running units : ℕ) (row q : List ℕ) (p : Profiles) : Type 0 where
  pub time : running ≤ most_running
  pub first : length q ≤ length p.first
  pub second : length q ≤ length p.second
  pub adds : arrivals.EntryFits units (arrival_time_of running) row (reported running q cycles) p.output

-- the same from an entry of the record
unfoldable pub entry_step : (running c : ℕ) → Entry → List ℕ → Profiles → Profiles
entry_step running c e row p = spread_step running (discharge_volume c e) row (entry_profile c e) p

-- profiles that are long enough
pub record Room (c : ℕ) (p : Profiles) : Type 0 where
  pub output : 4 * c ≤ length p.output
  pub first : c ≤ length p.first
  pub second : c ≤ length p.second

-- profiles of the same lengths have the same room
pub room_kept : {c : ℕ} (p p' : Profiles) → Room c p → length p'.output ≡ length p.output → length p'.first ≡ length p.first →
    length p'.second ≡ length p.second → Room c p'
room_kept p p' r eo ef es = record { output = omega (arith, r.output); first = omega (arith, r.first); second = omega (arith, r.second) }

pub record FillEntryFits (running c : ℕ) (e : Entry) (o : ℕ) (row : List ℕ) (p : Profiles) : Type 0 where
  pub time : running ≤ most_running
  pub cycle : (least_cycle ≤ c) × (c ≤ most_cycle)
  pub entry : EntryRanges c e
  pub volume : o ≡ discharge_volume c e
  pub shares : (j : ℕ) → get_or row j 0 ≤ discharge_volume c e
  pub room : Room c p
  pub small : (k : ℕ) → k < 4 * c → get_or p.output k 0 ≤ run_limit

-- four rows of four, each within what its entry discharges
pub record RowsFit (s : Segment) (rows : List (List ℕ)) : Type 0 where
  pub four : (i : ℕ) → i < 4 → length (get_or rows i []) ≡ 4
  pub left : (j : ℕ) → pair_flow rows 0 j ≤ discharge_volume s.cycle s.left
  pub through : (j : ℕ) → pair_flow rows 1 j ≤ discharge_volume s.cycle s.through
  pub right : (j : ℕ) → pair_flow rows 2 j ≤ discharge_volume s.cycle s.right
  pub access : (j : ℕ) → pair_flow rows 3 j ≤ access_discharge s

pub record FillFits (s : Segment) (rows : List (List ℕ)) (p : Profiles) : Type 0 where
  pub shares : RowsFit s rows
  pub room : Room s.cycle p

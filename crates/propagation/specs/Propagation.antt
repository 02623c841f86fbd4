-- The profiles of a segment whose pair flows are given: each entry's discharge dispersed, shared among the exits, and landed.
use Rattle.std.specs.Prelude.{ℕ, suc, ◌+◌, ◌*◌, ◌≡◌, List, [], ◌++◌, drop, get_or, replicate}
use Rattle.limits.specs.Limits.{most_cycle}
use Rattle.signal.specs.Landing.{landing}
use Rattle.segment.specs.declared.Entry.{Entry}
use Rattle.segment.specs.declared.Segment.{Segment}
use Rattle.metering.specs.Metering.{discharge_volume}
use Rattle.entries.specs.Entries.{entry_profile}
use Rattle.dispersion.specs.Dispersion.{arrival_time_of, reported}
use Rattle.pair_parts.specs.PairParts.{pair_arrivals}
use Rattle.arrivals.specs.Arrivals.{four_runs}
use Rattle.propagation.specs.declared.LentProfiles.{LentProfiles}

-- the three lent profiles
pub record Profiles : Type 0 where
  pub output : List ℕ
  pub first : List ℕ
  pub second : List ℕ

abbrev pub profiles : List ℕ → List ℕ → List ℕ → Profiles
profiles o f s = record { output = o; first = f; second = s }

-- as a contract reads them, behind the references that a call is lent
abbrev pub lent : (output first second : List ℕ) → Profiles
lent output first second = profiles output first second

-- what lent profiles hold
abbrev pub held : LentProfiles → Profiles
held p = lent p.output.now p.first.now p.second.now

-- profiles that every record's cycle fits
unfoldable pub longest : Profiles
longest = profiles (replicate (4 * most_cycle) 0) (replicate most_cycle 0) (replicate most_cycle 0)

-- a call leaves its profiles those that it was lent, whatever it writes to them
pub record Same (p p' : LentProfiles) : Type 0 where
  pub output : p'.output.ghost_name ≡ p.output.ghost_name
  pub first : p'.first.ghost_name ≡ p.first.ghost_name
  pub second : p'.second.ghost_name ≡ p.second.ghost_name

-- sixty-four cycles are worked before the reported one, sixty-five in all
abbrev pub cycles_before : ℕ
cycles_before = 64

abbrev pub cycles : ℕ
cycles = suc cycles_before

-- the pair flow v of an entry and an exit, each counted from 0
abbrev pub pair_flow : List (List ℕ) → ℕ → ℕ → ℕ
pair_flow rows i j = get_or (get_or rows i []) j 0

-- an entry's arrivals in the reported cycle, by discharge step
unfoldable pub entry_arrivals : Segment → Entry → List ℕ
entry_arrivals s e = reported s.running (entry_profile s.cycle e) cycles

-- what of them goes to the exit that has v of the entry's flow units
unfoldable pub pair_of : Segment → Entry → ℕ → List ℕ
pair_of s e v = pair_arrivals v (discharge_volume s.cycle e) (entry_arrivals s e)

-- what of it lands in a step
unfoldable pub lands_in : Segment → Entry → ℕ → ℕ → ℕ
lands_in s e v step = landing s.cycle (arrival_time_of s.running) step 1 (pair_of s e v)

-- an exit's flow in a step: access adds its v in every step
unfoldable pub flow_at : Segment → List (List ℕ) → ℕ → ℕ → ℕ
flow_at s rows exit step =
    pair_flow rows 3 exit
    + lands_in s s.left (pair_flow rows 0 exit) step
    + lands_in s s.through (pair_flow rows 1 exit) step
    + lands_in s s.right (pair_flow rows 2 exit) step

-- four runs in the output, exits in order; the right entry's last cycle in the first work profile, the one before it in the second;
-- numbers beyond stay
unfoldable pub filled_of : Segment → List (List ℕ) → Profiles → Profiles
filled_of s rows p =
    let q = entry_profile s.cycle s.right in
    profiles (four_runs s.cycle (flow_at s rows) (drop (4 * s.cycle) p.output))
    (reported s.running q cycles ++ drop s.cycle p.first)
    (reported s.running q cycles_before ++ drop s.cycle p.second)

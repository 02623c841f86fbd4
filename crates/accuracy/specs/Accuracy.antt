-- Demand 3: how near a working in whole flow units stays to the exact ones, what its dispersion keeps, and what its pairs have of their entry.
use Rattle.std.specs.Prelude.{ℕ, ◌+◌, ◌-◌, ◌≤◌, ◌<◌, ◌≡◌, List, take, get_or}
use Rattle.lists.specs.Lists.{sum, number_at}
use Rattle.runs.specs.Runs.{run_at}
use Rattle.signal.specs.Turn.{earlier}
use Rattle.segment.specs.declared.Entry.{Entry}
use Rattle.segment.specs.declared.Segment.{Segment}
use Rattle.metering.specs.Metering.{discharge_volume}
use Rattle.entries.specs.Entries.{entry_profile}
use Rattle.dispersion.specs.Dispersion.{arrival_time_of, reported}
use Rattle.pair_parts.specs.PairParts.{Shared}
use Rattle.exact.specs.Fraction.{Fraction, Within}
use Rattle.exact.specs.Exact.{exact_pair, exact_exit}
use Rattle.exact_dispersion.specs.ExactDispersion.{ExactFlow, exact_reported, departed, arrived, Balanced}
use Rattle.exact_dispersion.specs.Repeating.{repeating}
use Rattle.propagation.specs.Propagation.{Profiles, cycles_before, cycles, pair_flow, pair_of, lands_in}

-- the exact flow of an entry that starts empty, over all cycles worked; `repeating` is that of one that was never empty
abbrev pub from_empty : ExactFlow
from_empty = exact_reported cycles

-- what an exit exactly has of an entry in discharge step i of the reported cycle
unfoldable pub exact_of : ExactFlow → Segment → Entry → (v i : ℕ) → Fraction
exact_of exact s e v i = exact_pair (exact s.running (entry_profile s.cycle e) i) v (discharge_volume s.cycle e)

-- an exit's exact flow in a step, landed alike: of the discharge step that lands there, the platoon arrival time before it
unfoldable pub exact_at : ExactFlow → Segment → List (List ℕ) → (exit step : ℕ) → Fraction
exact_at exact s rows exit step =
    let i = earlier s.cycle (arrival_time_of s.running) step in
    exact_exit (exact_of exact s s.left (pair_flow rows 0 exit) i)
    (exact_of exact s s.through (pair_flow rows 1 exit) i)
    (exact_of exact s s.right (pair_flow rows 2 exit) i)
    (pair_flow rows 3 exit)

-- number `step` of an exit's run in the output that a call left
unfoldable pub output_at : Segment → Profiles → (exit step : ℕ) → ℕ
output_at s p exit step = number_at (run_at s.cycle exit p.output) step

-- the right entry as the work profiles hold it: its arrivals in the last cycle, and the sum of those of all cycles worked, the last two as held
unfoldable pub last_cycle_in : Segment → Profiles → List ℕ
last_cycle_in s p = take s.cycle p.first

unfoldable pub arrived_in : Segment → Profiles → ℕ
arrived_in s p =
    arrived s.running (entry_profile s.cycle s.right) (cycles_before - 1)
    + sum (take s.cycle p.second)
    + sum (take s.cycle p.first)

-- one signalised entry, v the pair flow of each exit: what arrived over all cycles worked, and the arrivals of the last
pub record EntryHolds (s : Segment) (e : Entry) (v : ℕ → ℕ) (all : ℕ) (last : List ℕ) : Type 0 where
  -- N·(discharged - arrived) - (D-N)·(last step's arrival) is from 0 to D - 1
  pub balanced : Balanced s.running (departed (entry_profile s.cycle e) cycles) all (get_or last (s.cycle - 1) 0)
  -- where it discharges: a pair's arrivals in the reported cycle never exceed v/O of the entry's, and fall short of it by less than one
  pub shared : 0 < discharge_volume s.cycle e → (exit : ℕ) → exit < 4 →
      Shared (v exit) (discharge_volume s.cycle e) (sum last) (sum (pair_of s e (v exit)))

-- an entry whose arrivals no profile keeps: those of dispersion
abbrev pub EntryMeets : Segment → Entry → (ℕ → ℕ) → Type 0
EntryMeets s e v =
    let q = entry_profile s.cycle e in
    EntryHolds s e v (arrived s.running q cycles) (reported s.running q cycles)

-- an exit's flow in a step differs from the exact one by less than the distance
abbrev pub FlowsWithin : (d : ℕ) → ExactFlow → Segment → List (List ℕ) → Profiles → Type 0
FlowsWithin d exact s rows p =
    (exit step : ℕ) → exit < 4 → 0 < step → step ≤ s.cycle → Within d (output_at s p exit step) (exact_at exact s rows exit step)

-- the whole demand, of a segment with its sixteen pair flows and the three profiles that a call left
pub record Accurate (s : Segment) (rows : List (List ℕ)) (p : Profiles) : Type 0 where
  -- demand 3: six from the flow that starts empty, over all cycles worked
  pub flows : FlowsWithin 6 from_empty s rows p
  -- paper 02, request 2: nine from the repeating flow; and closer than asked, seven
  pub repeats : FlowsWithin 9 repeating s rows p
  pub closer : FlowsWithin 7 repeating s rows p
  -- an exit's flow is access's v and what the pairs land there, whose sums `shared` bounds
  pub landed : (exit step : ℕ) → exit < 4 → 0 < step → step ≤ s.cycle → output_at s p exit step
      ≡ pair_flow rows 3 exit
      + lands_in s s.left (pair_flow rows 0 exit) step
      + lands_in s s.through (pair_flow rows 1 exit) step
      + lands_in s s.right (pair_flow rows 2 exit) step
  pub left : EntryMeets s s.left (pair_flow rows 0)
  pub through : EntryMeets s s.through (pair_flow rows 1)
  -- the right entry's arrivals are those that the work profiles hold
  pub right : EntryHolds s s.right (pair_flow rows 2) (arrived_in s p) (last_cycle_in s p)

-- Arrivals at the exits: the output holds a run of c numbers for each exit, exits in order; what lies beyond stays.
use Rattle.std.specs.Prelude.{ℕ, ◌*◌, ◌≤◌, ◌<◌, ◌≡◌, List, ◌++◌, length, get_or, replicate}
use Rattle.limits.specs.Limits.{most_cycle, flow_limit, step_bound}
use Rattle.lists.specs.Lists.{tab}
use Rattle.runs.specs.PerRun.{per_run}
use Rattle.signal.specs.Landing.{added}
use Rattle.pair_parts.specs.PairParts.{pair_arrivals}

-- access adds its v in every step: each run begins with it, whatever stood there
unfoldable pub begun : ℕ → List ℕ → List ℕ → List ℕ
begun c row out = per_run (λ v run. replicate c v) c row out

-- an entry's arrivals, t steps later (t the platoon arrival time, t'): to each run those of its pair are added where they land
unfoldable pub entry_added : ℕ → ℕ → ℕ → List ℕ → List ℕ → List ℕ → List ℕ
entry_added c t w arrived row out = per_run (λ v run. added c t 1 (pair_arrivals v w arrived) run) c row out

-- four runs of c numbers, r j s number s of run j, and what lies beyond
abbrev pub four_runs : ℕ → (ℕ → ℕ → ℕ) → List ℕ → List ℕ
four_runs c r rest = tab (r 0) 1 c ++ (tab (r 1) 1 c ++ (tab (r 2) 1 c ++ (tab (r 3) 1 c ++ rest)))

-- an arrival is no more than the largest flow rate brings in a step
abbrev pub arrival_limit : ℕ
arrival_limit = 1000 * flow_limit

-- a number of a run to which one is added: the sum fits in 32 bits
abbrev pub run_limit : ℕ
run_limit = 4000000000

-- ranges in which the sums of numbers added place by place fit
pub record PartsFit (arrived run : List ℕ) : Type 0 where
  pub long : length arrived ≤ length run
  pub arrivals : (i : ℕ) → get_or arrived i 0 ≤ arrival_limit
  pub small : (k : ℕ) → get_or run k 0 ≤ run_limit

-- those in which the sums of one run fit
pub record LandsFit (t : ℕ) (arrived run : List ℕ) : Type 0 where
  pub long : length arrived ≡ length run
  pub some : 0 < length run
  pub cycle : length run ≤ most_cycle
  pub time : t < step_bound
  pub arrivals : (i : ℕ) → get_or arrived i 0 ≤ arrival_limit
  pub small : (k : ℕ) → get_or run k 0 ≤ run_limit

-- the same of a pair's part of the arrivals
pub record PairFits (v w t : ℕ) (arrived run : List ℕ) : Type 0 where
  pub share : v ≤ w
  pub lands : LandsFit t arrived run

-- and of the four
pub record EntryFits (w t : ℕ) (row arrived out : List ℕ) : Type 0 where
  pub some : 0 < length arrived
  pub cycle : length arrived ≤ most_cycle
  pub room : 4 * length arrived ≤ length out
  pub shares : (j : ℕ) → get_or row j 0 ≤ w
  pub time : t < step_bound
  pub arrivals : (i : ℕ) → get_or arrived i 0 ≤ arrival_limit
  pub small : (k : ℕ) → k < 4 * length arrived → get_or out k 0 ≤ run_limit

-- The settling and its cells: items 4 and 5 of "Metering and shares".
use Rattle.std.specs.Prelude.{ℕ, zero, suc, ◌+◌, Bool, true, false, cond, eqb, Float}
use Rattle.std.specs.Float.{binary64}
use Rattle.std.specs.Float.Ieee.{of_bits, lt}
use Rattle.movements.specs.PerMovement.{Counts, Seeds}
use Rattle.balance_flows.specs.Flows.{Flows, FlowTable, zero64, times, flows_of, no_flows, no_table, table_finite}
use Rattle.balance_round.specs.declared.Round.{Round}
use Rattle.balance_round.specs.Round.{round_of, stops}
use Rattle.balance.specs.declared.Settling.{Settling}
use Rattle.balance.specs.declared.Settling.TheVariants.{Settled, Unsettled}
use Rattle.balance.specs.declared.Balance.{Balance}
use Rattle.balance_volumes.specs.Volumes.{discharge_floats, exit_floats, proportions, destination_volumes}

-- at most so many rounds
abbrev pub round_limit : ℕ
round_limit = 200

-- a sum of differences below it settles
abbrev pub threshold : Float
threshold = of_bits binary64 0x3f84_7ae1_47ae_147b

-- (Oa·b)·p
abbrev pub cell : Float → Float → Float → Float
cell oa b p = times (times oa b) p

unfoldable pub cell_row : Float → Flows → Flows → Flows
cell_row oa b p = flows_of (cell oa b.left p.left) (cell oa b.through p.through) (cell oa b.right p.right) (cell oa b.access p.access)

-- new Oa, this round's b
unfoldable pub cells_of : Flows → Flows → FlowTable → FlowTable
cells_of origins b p =
    record {
      left = cell_row origins.left b p.left;
      through = cell_row origins.through b p.through;
      right = cell_row origins.right b p.right;
      access = cell_row origins.access b p.access;
    }

-- the settling's cases: the paper's number, 0 where settled, and the last sum of differences reached
abbrev pub settling_of : (number : ℕ) → (sum : Float) → Settling
settling_of number sum = cond (eqb number 0) (Settled sum) (Unsettled sum)

-- unsettled, 15, with the last sum reached; no cells
abbrev pub unsettled : Float → ℕ → Balance
unsettled sum n = record { settling = settling_of 15 sum; rounds = n; cells = no_table }

abbrev pub by_cells : Bool → FlowTable → Float → ℕ → Balance
by_cells true c sum n = record { settling = settling_of 0 sum; rounds = n; cells = c }
by_cells false c sum n = unsettled sum n

-- the round that settles is the nth: a cell not finite counts as unsettled, with this round's sum
unfoldable pub closed : FlowTable → Float → ℕ → Balance
closed c sum n = by_cells (table_finite c) c sum n

-- the settling after n rounds, with the last of them; or its answer
pub data Stage : Type 0 where
  Running : ℕ → Round → Stage
  Ended : Balance → Stage

-- before the first round Oa = O, and there is no sum
unfoldable pub start : Flows → Round
start o = record { destinations = no_flows; ratios = no_flows; factors = no_flows; origins = o; change = zero64 }

-- After n rounds, the last of which is `before`, comes the round x. Where it stops early it keeps the sum of the round before.
-- Else it settles where its sum is below the threshold.
unfoldable pub after : Bool → Bool → FlowTable → ℕ → Round → Round → Stage
after true below p n before x = Ended (unsettled before.change n)
after false true p n before x = Ended (closed (cells_of x.origins x.ratios p) x.change (n + 1))
after false false p n before x = Running (n + 1) x

unfoldable pub next : Flows → Flows → FlowTable → Stage → Stage
next o d p (Ended b) = Ended b
next o d p (Running n before) =
    let x = round_of o d p before.origins in
    after (stops o d x) (lt x.change threshold) p n before x

-- k rounds more
unfoldable pub rounds : ℕ → Flows → Flows → FlowTable → Stage → Stage
rounds zero o d p s = s
rounds (suc k) o d p s = rounds k o d p (next o d p s)

-- where the rounds are used up: unsettled with the last sum
unfoldable pub report : Stage → Balance
report (Ended b) = b
report (Running n before) = unsettled before.change n

unfoldable pub settle : ℕ → Flows → Flows → FlowTable → Balance
settle limit o d p = report (rounds limit o d p (Running 0 (start o)))

-- the settling of discharge O, exit volumes and seeds
unfoldable pub balanced : Counts → Counts → Seeds → Balance
balanced o exits seeds =
    let origins = discharge_floats o in
    settle round_limit origins (destination_volumes origins (exit_floats exits)) (proportions seeds)

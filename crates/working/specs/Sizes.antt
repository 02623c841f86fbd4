-- How large the figures of a record that is decided to work can be.
use Rattle.std.specs.Prelude.{ℕ, ◌*◌, ◌≤◌, ◌<◌, ◌≡◌, List, [], length, get_or, Ok}
use Rattle.std.proofs.Common.{arith}
use Rattle.limits.specs.Limits.{most_cycle, entry_limit, step_bound}
use Rattle.lists.specs.Lists.{sum, sum_le, tab_length, tab_each_le}
use Rattle.movements.specs.Movements.{flow_units}
use Rattle.signal.specs.declared.Green.{Green}
use Rattle.signal.specs.Greens.{GreenFits}
use Rattle.segment.specs.declared.Segment.{Segment}
use Rattle.ranges.specs.Ranges.{Ranges}
use Rattle.metering.specs.Metering.{discharge_volumes}
use Rattle.balance.specs.Settling.{round_limit}
use Rattle.balance_decision.specs.declared.Decision.{Decision}
use Rattle.balance_decision.specs.Meaning.{decision_rounds}
use Rattle.dispersion.specs.Arrivals.{arrival_time_small}
use Rattle.exit_figures.specs.declared.ExitFigures.{ExitFigures}
use Rattle.exit_figures.specs.ExitFigures.{green_flow, figures_of}
use Rattle.exit_figures.specs.Laws.{green_flow_le}
use Rattle.exit_figures.proofs.Laws.{permille_le}
use Rattle.propagation.specs.Propagation.{pair_flow, flow_at}
use Rattle.propagation.specs.Steps.{RowsFit}
use Rattle.propagation.specs.Largest.{largest_flow}
use Rattle.propagation.proofs.Largest.{pair_flow_le, flow_le}
use Rattle.working_outcome.specs.declared.Working.{Working}
use Rattle.working_outcome.specs.Answer.{run_of, worked_of}
use Rattle.working.specs.Working.{decision_for}
use Rattle.working.specs.Decided.{rows_fit}

-- an exit's figures: no more than the largest flow in every step
pub record ExitSized (f : ExitFigures) : Type 0 where
  pub total : f.total ≤ most_cycle * largest_flow
  pub green : f.green ≤ f.total
  pub permille : f.permille ≤ 1000

pub record FiguresSized (w : Working) : Type 0 where
  pub arrival : w.arrival < step_bound
  pub rounds : w.rounds ≤ round_limit
  pub four : (i : ℕ) → i < 4 → length (get_or w.pairs.rows i []) ≡ 4
  pub pairs : (i j : ℕ) → i < 4 → pair_flow w.pairs.rows i j ≤ flow_units entry_limit
  pub left : ExitSized w.left
  pub through : ExitSized w.through
  pub right : ExitSized w.right

-- ---- of pair flows that fit their entries

module _ (s : Segment) (rows : List (List ℕ)) (r : Ranges s) (fit : RowsFit s rows) where
  run_le : (j i : ℕ) → get_or (run_of s rows j) i 0 ≤ largest_flow
  unfolding run_of
  run_le j = tab_each_le largest_flow (flow_at s rows j) 1 s.cycle (λ k pos past. flow_le s rows r fit j k pos (omega arith))

  run_length : (j : ℕ) → length (run_of s rows j) ≡ s.cycle
  unfolding run_of
  run_length j = tab_length (flow_at s rows j) 1 s.cycle

  exit_sized : (j : ℕ) (green : Green) → GreenFits s.cycle green → ExitSized (figures_of green (run_of s rows j))
  unfolding figures_of
  exit_sized j green w =
      let run = run_of s rows j in
      let part : green_flow green run ≤ sum run = green_flow_le green run (rw (run_length j) w) in
      record {
        total = omega (arith, sum_le largest_flow run (run_le j), run_length j, r.cycle);
        green = part;
        permille = permille_le (green_flow green run) (sum run) part;
      }

-- ---- of every record that is decided to work

module _ (s : Segment) (r : Ranges s) (d : Decision) (e : decision_for s ≡ Ok d) where
  fit : RowsFit s d.pairs.rows
  fit = rows_fit s d e

  pub worked_sized : FiguresSized (worked_of s d)
  unfolding worked_of decision_for
  worked_sized =
      let rows = d.pairs.rows in
      record {
        arrival = arrival_time_small s.running r.running.1;
        rounds = decision_rounds (discharge_volumes s) s.exits s.seeds d e;
        four = fit.four;
        pairs = pair_flow_le s rows r fit;
        left = exit_sized s rows r fit 0 s.downstream.left r.left_green;
        through = exit_sized s rows r fit 1 s.downstream.through r.through_green;
        right = exit_sized s rows r fit 2 s.downstream.right r.right_green;
      }

  -- each number of an exit's run
  pub run_sized : (j : ℕ) → j < 4 → (i : ℕ) → get_or (run_of s d.pairs.rows j) i 0 ≤ largest_flow
  run_sized j h = run_le s d.pairs.rows r fit j

-- The figures of a working.
use Rattle.std.specs.Prelude.{ℕ, List}
use Rattle.lists.specs.Lists.{sum, tab}
use Rattle.segment.specs.declared.Segment.{Segment}
use Rattle.dispersion.specs.Dispersion.{arrival_time_of}
use Rattle.exit_figures.specs.ExitFigures.{figures_of, blocked_steps}
use Rattle.balance_decision.specs.declared.Decision.{Decision}
use Rattle.propagation.specs.Propagation.{flow_at}
use Rattle.working_outcome.specs.declared.Working.{Working}

-- an exit's run, exits counted from 0
unfoldable pub run_of : Segment → List (List ℕ) → ℕ → List ℕ
run_of s rows exit = tab (flow_at s rows exit) 1 s.cycle

-- of what was decided: last sum, platoon arrival time, rounds, the sixteen pair flows, exit figures, blocked steps of the through exit
unfoldable pub worked_of : Segment → Decision → Working
worked_of s d =
    let run = run_of s d.pairs.rows in
    record {
      sum = d.sum;
      arrival = arrival_time_of s.running;
      rounds = d.rounds;
      pairs = d.pairs;
      left = figures_of s.downstream.left (run 0);
      through = figures_of s.downstream.through (run 1);
      right = figures_of s.downstream.right (run 2);
      access = sum (run 3);
      blocked = blocked_steps s.headway (run 1);
    }

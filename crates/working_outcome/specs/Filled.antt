-- An output that was filled, as the figures are read from it, and each exit's run in it.
use Rattle.std.specs.Prelude.{◌≡◌, List, ℕ, ◌*◌, ◌<◌, drop}
use Rattle.runs.specs.Runs.{run_at}
use Rattle.segment.specs.declared.Segment.{Segment}
use Rattle.arrivals.specs.Arrivals.{four_runs}
use Rattle.arrivals.proofs.Laws.{run_of_lem}
use Rattle.propagation.specs.Propagation.{Profiles, flow_at, filled_of}
use Rattle.working_outcome.specs.Answer.{run_of}

pub record Filled (s : Segment) (rows : List (List ℕ)) (output : List ℕ) : Type 0 where
  pub rest : List ℕ
  pub is : output ≡ four_runs s.cycle (flow_at s rows) rest

pub filled_run : (s : Segment) (rows : List (List ℕ)) (p : Profiles) (j : ℕ) → j < 4 → run_at s.cycle j (filled_of s rows p).output ≡ run_of s rows j
unfolding filled_of run_of
filled_run s rows p j h = run_of_lem s.cycle (flow_at s rows) (drop (4 * s.cycle) p.output) j h

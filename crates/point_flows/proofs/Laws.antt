-- Laws that stood in specs/Laws.antt: each number of each point's run, the numbers beyond, none of no points, and what of an entry lands in a step.
use Rattle.std.specs.Prelude.{ℕ, zero, suc, ◌+◌, ◌-◌, ◌*◌, ◌≤◌, ◌<◌, ◌≡◌, refl, List, [], ◌∷◌, ◌++◌, length, drop, get_or, replicate}
use Rattle.std.proofs.Common.{arith, ap, sym, ◌∙◌, drop_at, drop-drop}
use Rattle.lists.specs.Lists.{tab_length, tab_at, number_at}
use Rattle.runs.specs.Runs.{run_at, run_first, run_behind}
use Rattle.runs.specs.PerRun.{per_run}
use Rattle.signal.specs.Turn.{earlier}
use Rattle.signal.proofs.Landing.{landing_is}
use Rattle.segment.specs.declared.Entry.{Entry}
use Rattle.segment.specs.declared.Segment.{Segment}
use Rattle.entries.proofs.Laws.{entry_length}
use Rattle.dispersion.specs.Dispersion.{arrival_time_of}
use Rattle.dispersion.specs.Cycles.{reported_length}
use Rattle.propagation.specs.Propagation.{cycles_before}
use Rattle.points.specs.declared.Point.{Point}
use Rattle.points.specs.Points.{most_points}
use Rattle.point_flows.specs.PointFlows.{point_arrivals, passes_in, point_flow, point_run, point_runs, point_counts}

-- ---- the runs, in the profile that a filling leaves

run_length : (s : Segment) (p : Point) → length (point_run s p) ≡ s.cycle
unfolding point_run
run_length s p = tab_length (point_flow s p) 1 s.cycle

-- run i is that of point i, whatever the runs were worked over; d is whatever stands where there is no point
run_worked : (s : Segment) (d : Point) (ps : List Point) (out : List ℕ) (i : ℕ) → i < length ps →
    run_at s.cycle i (per_run (λ p run. point_run s p) s.cycle ps out) ≡ point_run s (get_or ps i d)
unfolding per_run
run_worked s d [] out i h = absurd (omega arith)
run_worked s d (p ∷ ps) out zero h = run_first s.cycle (point_run s p) _ (run_length s p)
run_worked s d (p ∷ ps) out (suc i) h =
    run_behind s.cycle (point_run s p) _ (run_length s p) i ∙ run_worked s d ps (drop s.cycle out) i (omega arith)

pub run_of_point : (s : Segment) (d : Point) (ps : List Point) (out : List ℕ) (i : ℕ) → i < length ps →
    run_at s.cycle i (point_runs s ps out) ≡ point_run s (get_or ps i d)
unfolding point_runs
run_of_point s d ps out i h = run_worked s d ps _ i h

-- its number `step` is the flow past that point
pub point_number : (s : Segment) (d : Point) (ps : List Point) (out : List ℕ) (i step : ℕ) → i < length ps → 0 < step → step ≤ s.cycle →
    number_at (run_at s.cycle i (point_runs s ps out)) step ≡ point_flow s (get_or ps i d) step
unfolding point_run
point_number s d ps out i step h first last =
    let e : 1 + (step - 1) ≡ step = omega arith in
    rw (run_of_point s d ps out i h, tab_at (point_flow s (get_or ps i d)) 1 s.cycle (step - 1) (omega arith), e)

-- the numbers beyond the runs are as they were
pub runs_beyond : (s : Segment) (ps : List Point) (out : List ℕ) → drop (length ps * s.cycle) (point_runs s ps out) ≡ drop (length ps * s.cycle) out
unfolding point_runs per_run
runs_beyond s [] out = refl
runs_beyond s (p ∷ ps) out =
    let c = s.cycle in
    let k = length ps * c in
    let m : suc (length ps) * c ≡ c + k = omega arith in
    rw m
    (sym (drop-drop k c (point_run s p ++ _)) ∙ ap (drop k) (drop_at (point_run s p) _ c (run_length s p)) ∙ runs_beyond s ps (drop c out)
    ∙ drop-drop k c out)

-- no points: nothing is written, and none is counted
pub no_runs : (s : Segment) (out : List ℕ) → point_runs s [] out ≡ out
unfolding point_runs per_run
no_runs s out = refl

pub no_counts : (s : Segment) → point_counts s [] ≡ replicate most_points 0
unfolding point_counts
no_counts s = refl

-- ---- one entry past a point

module _ (s : Segment) (p : Point) (e : Entry) where
  arrivals_length : length (point_arrivals s p e) ≡ s.cycle
  unfolding point_arrivals
  arrivals_length = reported_length _ _ cycles_before ∙ entry_length s.cycle e

  -- what lands in a step is the arrival of the one discharge step that lands there
  pub passes_is : (step : ℕ) → 0 < step → step ≤ s.cycle →
      passes_in s p e step ≡ get_or (point_arrivals s p e) (earlier s.cycle (arrival_time_of p.running) step - 1) 0
  unfolding passes_in
  passes_is step first last = landing_is s.cycle (arrival_time_of p.running) step (point_arrivals s p e) first last (omega (arith, arrivals_length))

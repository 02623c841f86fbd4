-- What passes each point along a segment in every step of the cycle, and the blocked steps there.
use Rattle.std.specs.Prelude.{ℕ, ◌+◌, ◌-◌, List, ◌++◌, map, length, replicate}
use Rattle.lists.specs.Lists.{tab}
use Rattle.runs.specs.PerRun.{per_run}
use Rattle.signal.specs.Landing.{landing}
use Rattle.segment.specs.declared.Entry.{Entry}
use Rattle.segment.specs.declared.Segment.{Segment}
use Rattle.metering.specs.Metering.{access_discharge}
use Rattle.entries.specs.Entries.{entry_profile}
use Rattle.dispersion.specs.Dispersion.{arrival_time_of, reported}
use Rattle.exit_figures.specs.ExitFigures.{blocked_steps}
use Rattle.propagation.specs.Propagation.{cycles}
use Rattle.points.specs.declared.Point.{Point}
use Rattle.points.specs.Points.{most_points}

-- an entry's arrivals at a point in the reported cycle, whole, by discharge step: dispersed by the point's running time
unfoldable pub point_arrivals : Segment → Point → Entry → List ℕ
point_arrivals s p e = reported p.running (entry_profile s.cycle e) cycles

-- what of them lands in a step, by the point's arrival time
unfoldable pub passes_in : Segment → Point → Entry → ℕ → ℕ
passes_in s p e step = landing s.cycle (arrival_time_of p.running) step 1 (point_arrivals s p e)

-- the flow past a point in a step: access adds its discharge, undispersed, in every step
unfoldable pub point_flow : Segment → Point → ℕ → ℕ
point_flow s p step = access_discharge s + passes_in s p s.left step + passes_in s p s.through step + passes_in s p s.right step

-- a point's run
unfoldable pub point_run : Segment → Point → List ℕ
point_run s p = tab (point_flow s p) 1 s.cycle

-- a run for each point, in the order given; numbers beyond stay
unfoldable pub point_runs : Segment → List Point → List ℕ → List ℕ
point_runs s ps out = per_run (λ p run. point_run s p) s.cycle ps out

-- a point's blocked steps, by its own headway
unfoldable pub point_blocked : Segment → Point → ℕ
point_blocked s p = blocked_steps p.headway (point_run s p)

-- those of each point, and 0 for the points that are not given
unfoldable pub point_counts : Segment → List Point → List ℕ
point_counts s ps = map (point_blocked s) ps ++ replicate (most_points - length ps) 0

-- What each step of the filling asks of the numbers that it is lent.
use Rattle.std.specs.Prelude.{ℕ, ◌*◌, ◌≤◌, ◌<◌, true, ◌≡◌, List, length, get_or}
use Rattle.limits.specs.Limits.{most_cycle, most_running}
use Rattle.segment.specs.declared.Segment.{Segment}
use Rattle.entries.specs.Entries.{EntryRuns}
use Rattle.arrivals.specs.Arrivals.{arrival_limit, run_limit}
use Rattle.points.specs.declared.Point.{Point}
use Rattle.points.specs.declared.Points.{Points}
use Rattle.points.specs.Points.{most_points, given, all_fit}

-- a cycle's discharge, and a run to which its arrivals are added
pub record PassFits (running : ℕ) (discharge run : List ℕ) : Type 0 where
  pub time : running ≤ most_running
  pub some : 0 < length run
  pub cycle : length run ≤ most_cycle
  pub long : length discharge ≡ length run
  pub small : (i : ℕ) → get_or discharge i 0 ≤ arrival_limit
  pub sums : (k : ℕ) → get_or run k 0 ≤ run_limit

-- the record's three discharges
pub record Discharged (s : Segment) (discharges : List ℕ) : Type 0 where
  pub entries : EntryRuns s discharges
  pub long : 3 * s.cycle ≤ length discharges

-- and one point's run
pub record PointFits (s : Segment) (p : Point) (discharges run : List ℕ) : Type 0 where
  pub discharged : Discharged s discharges
  pub time : p.running ≤ most_running
  pub long : length run ≡ s.cycle

-- at most eight points, each on the segment, and room for a run of each
pub record FillFits (s : Segment) (ps : Points) (out : List ℕ) : Type 0 where
  pub few : ps.count ≤ most_points
  pub fit : all_fit s.running (given ps) ≡ true
  pub room : s.cycle * ps.count ≤ length out

pub record EachFits (s : Segment) (ps : Points) (discharges out : List ℕ) : Type 0 where
  pub discharged : Discharged s discharges
  pub fill : FillFits s ps out

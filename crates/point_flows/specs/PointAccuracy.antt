-- How near the flow past a point stays to the exact ones.
use Rattle.std.specs.Prelude.{ℕ, ◌≤◌, ◌<◌, List, get_or}
use Rattle.lists.specs.Lists.{number_at}
use Rattle.runs.specs.Runs.{run_at}
use Rattle.signal.specs.Turn.{earlier}
use Rattle.segment.specs.declared.Segment.{Segment}
use Rattle.metering.specs.Metering.{access_discharge}
use Rattle.entries.specs.Entries.{entry_profile}
use Rattle.dispersion.specs.Dispersion.{arrival_time_of}
use Rattle.exact.specs.Fraction.{Fraction, Within}
use Rattle.exact.specs.Exact.{exact_exit}
use Rattle.exact_dispersion.specs.ExactDispersion.{ExactFlow}
use Rattle.exact_dispersion.specs.Repeating.{repeating}
use Rattle.accuracy.specs.Accuracy.{from_empty}
use Rattle.points.specs.declared.Point.{Point}
use Rattle.points.specs.declared.Points.{Points}

-- the exact flow past a point in a step, landed alike: of each signalised entry by the point's running time, and access
unfoldable pub exact_point : ExactFlow → Segment → Point → (step : ℕ) → Fraction
exact_point exact s p step =
    let i = earlier s.cycle (arrival_time_of p.running) step in
    exact_exit (exact p.running (entry_profile s.cycle s.left) i)
    (exact p.running (entry_profile s.cycle s.through) i)
    (exact p.running (entry_profile s.cycle s.right) i)
    (access_discharge s)

-- what stands where no point does
abbrev pub no_point : Point
no_point = record { running = 0; headway = 0 }

abbrev pub point_at : Points → ℕ → Point
point_at ps i = get_or ps.at i no_point

-- number `step` of each given point's run, in the profile that a call left, differs from the exact flow by less than the distance
abbrev pub PointsWithin : (d : ℕ) → ExactFlow → Segment → Points → List ℕ → Type 0
PointsWithin d exact s ps passing =
    (i step : ℕ) → i < ps.count → 0 < step → step ≤ s.cycle →
    Within d (number_at (run_at s.cycle i passing) step) (exact_point exact s (point_at ps i) step)

pub record PointsAccurate (s : Segment) (ps : Points) (passing : List ℕ) : Type 0 where
  -- three from the flow that starts empty, over all cycles worked
  pub flows : PointsWithin 3 from_empty s ps passing
  -- paper 02, request 2: six from the repeating flow; and closer than asked, four
  pub repeats : PointsWithin 6 repeating s ps passing
  pub closer : PointsWithin 4 repeating s ps passing

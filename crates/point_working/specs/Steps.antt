-- What an accepted record, its points and its profiles bring to the working.
use Rattle.std.specs.Prelude.{ℕ, List}
use Rattle.segment.specs.declared.Segment.{Segment}
use Rattle.propagation.specs.Propagation.{Profiles}
use Rattle.propagation.specs.Steps.{Room}
use Rattle.points.specs.declared.Points.{Points}
use Rattle.point_filling.specs.Steps.{FillFits}

pub record Accepts (s : Segment) (ps : Points) (p : Profiles) (q : List ℕ) : Type 0 where
  pub room : Room s.cycle p
  pub points : FillFits s ps q

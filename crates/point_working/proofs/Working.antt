-- The working that a call with points answers is that of the record, whatever its points.
use Rattle.std.specs.Prelude.{ℕ, ◌≡◌, refl, List, Result, Ok, Err}
use Rattle.refusal.specs.Refusal.{Or}
use Rattle.segment.specs.declared.Segment.{Segment}
use Rattle.balance_decision.specs.declared.Unworked.{Unworked}
use Rattle.propagation.specs.Propagation.{Profiles}
use Rattle.working_outcome.specs.declared.Working.{Working}
use Rattle.working.specs.Working as working
use Rattle.points.specs.declared.Points.{Points}
use Rattle.point_working.specs.PointWorking.{counted, by_record}
use Rattle.point_working.specs.None.{working_in}

counted_in : (s : Segment) (ps : Points) (r : Result Working Unworked) → working_in (counted s ps r) ≡ r
counted_in s ps (Err u) = refl
counted_in s ps (Ok w) = refl

pub working_is : (x : Or Segment) (ps : Points) (p : Profiles) (q : List ℕ) → working_in (by_record x ps p q).answer ≡ (working.by_record x p).answer
working_is (Err r) ps p q = refl
working_is (Ok s) ps p q = counted_in s ps (working.by_decision s (working.decision_for s) p).answer

-- The working of a segment record with points along it: what it answers and leaves in four lent profiles, on every way.
use Rattle.std.specs.Prelude.{ℕ, ◌*◌, ◌&&◌, ◌≡◌, List, [], ◌∷◌, leb, length, replicate, Result, Ok, Err}
use Rattle.refusal.specs.declared.Refusal.TheVariants.{ProfileRoom, PointCount, PointRange}
use Rattle.refusal.specs.Refusal.{Or, Test, test}
use Rattle.segment.specs.declared.Segment.{Segment}
use Rattle.segment.specs.Segment.{segment_of}
use Rattle.validation.specs.Accepting.{accept_with}
use Rattle.balance_decision.specs.declared.Unworked.{Unworked}
use Rattle.balance_decision.specs.declared.Unworked.TheVariants.{Refused}
use Rattle.propagation.specs.Propagation.{Profiles}
use Rattle.accuracy.specs.Accuracy.{Accurate}
use Rattle.working_outcome.specs.declared.Working.{Working}
use Rattle.working.specs.Working.{fits, decision_for, Called, by_decision}
use Rattle.points.specs.declared.Points.{Points}
use Rattle.points.specs.Points.{most_points, given, all_fit}
use Rattle.point_flows.specs.PointFlows.{point_runs, point_counts}
use Rattle.point_flows.specs.PointAccuracy.{PointsAccurate}
use Rattle.point_working.specs.declared.PointWorking.{PointWorking}

-- after the record's tests: more than eight points, a point that does not fit, a profile too short (a run for each point too)
abbrev pub point_tests : Points → Profiles → (passing : ℕ) → Segment → List Test
point_tests ps p passing s =
    test PointCount (leb ps.count most_points)
    ∷ test PointRange (all_fit s.running (given ps))
    ∷ test ProfileRoom (fits p s && leb (s.cycle * ps.count) passing)
    ∷ []

abbrev pub accept_of : List ℕ → Points → Profiles → (passing : ℕ) → Or Segment
accept_of l ps p passing = accept_with l (point_tests ps p passing)

-- no point counted
abbrev pub none_blocked : List ℕ
none_blocked = replicate most_points 0

abbrev pub answered : Working → List ℕ → PointWorking
answered w counts = record { working = w; blocked = counts }

-- the answer, and the four profiles afterwards
pub record PointCalled : Type 0 where
  pub answer : Result PointWorking Unworked
  pub after : Profiles
  pub passing : List ℕ

abbrev pub point_called : Result PointWorking Unworked → Profiles → List ℕ → PointCalled
point_called r p q = record { answer = r; after = p; passing = q }

-- what is worked has a count for each point given
abbrev pub counted : Segment → Points → Result Working Unworked → Result PointWorking Unworked
counted s ps (Err u) = Err u
counted s ps (Ok w) = Ok (answered w (point_counts s (given ps)))

-- and a run for each; otherwise the point profiles stay
abbrev pub passing_after : Result Working Unworked → Segment → Points → List ℕ → List ℕ
passing_after (Err u) s ps q = q
passing_after (Ok w) s ps q = point_runs s (given ps) q

-- a working with its points: the three other profiles end as without
abbrev pub with_points : Segment → Points → Called → List ℕ → PointCalled
with_points s ps c q = point_called (counted s ps c.answer) c.after (passing_after c.answer s ps q)

abbrev pub by_record : Or Segment → Points → Profiles → List ℕ → PointCalled
by_record (Err refusal) ps p q = point_called (Err (Refused refusal)) p q
by_record (Ok s) ps p q = with_points s ps (by_decision s (decision_for s) p) q

unfoldable pub point_call_of : List ℕ → Points → Profiles → List ℕ → PointCalled
point_call_of l ps p q = by_record (accept_of l ps p (length q)) ps p q

-- the call as called: its answer and all four profiles; demand 3, and every point's run near the exact flow, of all that it accepts
pub record PointWorks (l : List ℕ) (ps : Points) (p : Profiles) (q : List ℕ) (r : Result PointWorking Unworked) (p' : Profiles) (q' : List ℕ) : Type 0 where
  pub is : point_called r p' q' ≡ point_call_of l ps p q
  pub accurate : (w : PointWorking) → r ≡ Ok w → Accurate (segment_of l) w.working.pairs.rows p'
  pub points : (w : PointWorking) → r ≡ Ok w → PointsAccurate (segment_of l) ps q'

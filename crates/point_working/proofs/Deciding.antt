-- The ways of the call with points, from those of the working, over plain variables.
use Rattle.std.specs.Prelude.{Result, Ok, Err}
use Rattle.std.proofs.Common.{ℕ, ◌*◌, ◌≤◌, arith, ◌≡◌, ap, sym, subst, ◌∙◌, List, leb, length, leb-true}
use Rattle.refusal.specs.declared.Refusal.{Refusal}
use Rattle.refusal.specs.Refusal.{Or, ok_refused, both}
use Rattle.segment.specs.declared.Segment.{Segment}
use Rattle.ranges.specs.Ranges.{Ranges}
use Rattle.validation.specs.Accepted.{Accepted}
use Rattle.validation.proofs.Accepting.{accept_passed}
use Rattle.balance_decision.specs.declared.Unworked.{Unworked}
use Rattle.balance_decision.specs.declared.Unworked.TheVariants.{Refused}
use Rattle.propagation.specs.Propagation.{Profiles}
use Rattle.accuracy.specs.Accuracy.{Accurate}
use Rattle.working_outcome.specs.declared.Working.{Working}
use Rattle.working.specs.Working.{fits, decision_for, called, by_decision}
use Rattle.working.specs.Decided.{fits_room}
use Rattle.working.proofs.Decided.{decided_accurate}
use Rattle.points.specs.declared.Points.{Points}
use Rattle.points.specs.Points.{most_points, given}
use Rattle.point_flows.specs.PointFlows.{point_runs}
use Rattle.point_filling.specs.Steps.{FillFits}
use Rattle.point_flows.specs.PointAccuracy.{PointsAccurate}
use Rattle.point_flows.proofs.Holds.{points_accurate}
use Rattle.point_working.specs.declared.PointWorking.{PointWorking}
use Rattle.point_working.specs.PointWorking.{accept_of, PointCalled, point_called, counted, passing_after, with_points}
use Rattle.point_working.specs.PointWorking.{point_call_of, PointWorks}
use Rattle.point_working.specs.Steps.{Accepts}

-- ---- what a call that works has left

-- counts are told of a working
counted_works : (s : Segment) (ps : Points) (x : Result Working Unworked) (w : PointWorking) → counted s ps x ≡ Ok w → x ≡ Ok w.working
counted_works s ps (Err u) w e = ok_refused (sym e)
counted_works s ps (Ok v) w e = cc

module _ (s : Segment) (ps : Points) (p : Profiles) (q : List ℕ) (w : PointWorking) (p' : Profiles) (q' : List ℕ)
    (e : point_called (Ok w) p' q' ≡ with_points s ps (by_decision s (decision_for s) p) q) where
  works : (by_decision s (decision_for s) p).answer ≡ Ok w.working
  works = counted_works s ps _ w (sym (ap (λ (c : PointCalled). c.answer) e))

  -- the working beneath, as called
  beneath : called (Ok w.working) p' ≡ by_decision s (decision_for s) p
  beneath =
      ap (λ (r : Profiles). called (Ok w.working) r) (ap (λ (c : PointCalled). c.after) e)
      ∙ ap (λ (x : Result Working Unworked). called x (by_decision s (decision_for s) p).after) (sym works)

  accurate_exits : Ranges s → Accurate s w.working.pairs.rows p'
  accurate_exits fits = decided_accurate s fits p w.working p' beneath

  runs_written : q' ≡ point_runs s (given ps) q
  runs_written = ap (λ (d : PointCalled). d.passing) e ∙ ap (λ (x : Result Working Unworked). passing_after x s ps q) works

  accurate_points : Ranges s → FillFits s ps q → ps.count ≤ length ps.at → PointsAccurate s ps q'
  accurate_points r h room = rw runs_written (points_accurate s ps q room r h.fit)

-- ---- what the record, the points and the lengths decide

module _ (l : List ℕ) (ps : Points) (p : Profiles) (q : List ℕ) where
  abbrev accepts : Or Segment
  accepts = accept_of l ps p (length q)

  passed : (s : Segment) → accepts ≡ Ok s → Accepted l s × Accepts s ps p q
  passed s e =
      let a = accept_passed l _ s e in
      let t = both (fits p s) (leb (s.cycle * ps.count) (length q)) (a.1 16) in
      let few = leb-true ps.count most_points (a.1 19) in
      let points : FillFits s ps q = record { few = few; fit = a.1 20; room = leb-true _ _ t.1 } in
      (a.0, record { room = fits_room s p t.0; points = points })

  pub record_passed : (s : Segment) → accepts ≡ Ok s → Accepts s ps p q
  record_passed s e = (passed s e).1

  -- the call, worked or refused for its volumes
  pub record_worked : length ps.at ≡ most_points → (s : Segment) → accepts ≡ Ok s → (r : Result PointWorking Unworked) (p' : Profiles) (q' : List ℕ) →
      point_called r p' q' ≡ with_points s ps (by_decision s (decision_for s) p) q → PointWorks l ps p q r p' q'
  unfolding point_call_of
  record_worked eight s a r p' q' e =
      let same = (passed s a).0.is in
      let ranges = (passed s a).0.ranges in
      let h = (passed s a).1.points in
      let room : ps.count ≤ length ps.at = omega (arith, eight, h.few) in
      let told : (w : PointWorking) → r ≡ Ok w → point_called (Ok w) p' q' ≡ with_points s ps (by_decision s (decision_for s) p) q =
      λ w o. ap (λ (x : Result PointWorking Unworked). point_called x p' q') (sym o) ∙ e in
      record {
        is = e ∙ rw a;
        accurate = λ w o. subst (λ (u : Segment). Accurate u w.working.pairs.rows p') same (accurate_exits s ps p q w p' q' (told w o) ranges);
        points = λ w o. subst (λ (u : Segment). PointsAccurate u ps q') same (accurate_points s ps p q w p' q' (told w o) ranges h room);
      }

  -- refused for its record, its points or a profile's length
  pub record_refused : (n : Refusal) → accepts ≡ Err n → PointWorks l ps p q (Err (Refused n)) p q
  unfolding point_call_of
  record_refused n a = record { is = rw a; accurate = λ w o. ok_refused (sym o); points = λ w o. ok_refused (sym o) }

-- Laws of specs/None.antt: With no points the call is the call without: its answer, its three profiles, and the point profile as it was.
use Rattle.std.specs.Prelude.{ℕ, ◌*◌, Bool, true, false, ◌&&◌, ◌≡◌, List, [], ◌∷◌, leb, length, Result, Ok, Err}
use Rattle.std.proofs.Common.{arith, ap, sym, subst, ◌∙◌, le-leb}
use Rattle.std.proofs.Math.Path.{refl}
use Rattle.refusal.specs.declared.Refusal.TheVariants.{ProfileRoom}
use Rattle.refusal.specs.Refusal.{Or, ok_refused, need, and_then, test, first_failing}
use Rattle.segment.specs.declared.Segment.{Segment}
use Rattle.validation.specs.Validation.{check_of}
use Rattle.validation.specs.Accepting.{accept_with}
use Rattle.balance_decision.specs.declared.Unworked.{Unworked}
use Rattle.propagation.specs.Propagation.{Profiles}
use Rattle.accuracy.specs.Accuracy.{Accurate}
use Rattle.working_outcome.specs.declared.Working.{Working}
use Rattle.working.specs.Working as working
use Rattle.points.specs.declared.Points.{Points}
use Rattle.points.specs.Points.{all_fit}
use Rattle.points.proofs.Laws.{none_given}
use Rattle.point_flows.proofs.Laws.{no_runs, no_counts}
use Rattle.point_working.specs.declared.PointWorking.{PointWorking}
use Rattle.point_working.specs.PointWorking.{point_tests, accept_of, none_blocked, PointCalled}
use Rattle.point_working.specs.PointWorking.{counted, passing_after, with_points, by_record, point_call_of, PointWorks}
use Rattle.point_working.specs.None.{uncounted, without, working_in}

and_true : (a : Bool) → (a && true) ≡ a
and_true true = refl
and_true false = refl

module _ (ps : Points) (none : ps.count ≡ 0) where
  -- no profile is too short for no runs
  room : (c n : ℕ) → leb (c * ps.count) n ≡ true
  room c n = let e : c * ps.count ≡ c * 0 = ap (λ (m : ℕ). c * m) none in le-leb (c * ps.count) n (omega arith)

  -- 19 and 20 hold, and 16 is that of the other three profiles
  tests_none : (p : Profiles) (q : ℕ) (s : Segment) → first_failing (point_tests ps p q s) s ≡ first_failing (test ProfileRoom (working.fits p s) ∷ []) s
  unfolding need all_fit
  tests_none p q s = rw (none_given ps none, room s.cycle q, and_true, none)

  accepts_none : (l : List ℕ) (p : Profiles) (q : ℕ) → accept_of l ps p q ≡ working.accept_of l p
  unfolding accept_with
  accepts_none l p q = go (check_of l)
    where
      go : (x : Or Segment) → and_then x (λ s. first_failing (point_tests ps p q s) s)
          ≡ and_then x (λ s. first_failing (test ProfileRoom (working.fits p s) ∷ []) s)
      go (Err n) = refl
      go (Ok s) = tests_none p q s

  -- no run is written, and none is counted: so the call is the call without, whatever it answers
  passing_none : (s : Segment) (r : Result Working Unworked) (q : List ℕ) → passing_after r s ps q ≡ q
  passing_none s (Err u) q = refl
  passing_none s (Ok w) q = rw (none_given ps none) (no_runs s q)

  counts_none : (s : Segment) (r : Result Working Unworked) → counted s ps r ≡ uncounted r
  counts_none s (Err u) = refl
  counts_none s (Ok w) = rw (none_given ps none, no_counts s)

  with_none : (s : Segment) (c : working.Called) (q : List ℕ) → with_points s ps c q ≡ without c q
  with_none s c q = rw (passing_none s c.answer q, counts_none s c.answer)

  record_none : (x : Or Segment) (p : Profiles) (q : List ℕ) → by_record x ps p q ≡ without (working.by_record x p) q
  record_none (Err n) p q = refl
  record_none (Ok s) p q = with_none s (working.by_decision s (working.decision_for s) p) q

  pub none_is : (l : List ℕ) (p : Profiles) (q : List ℕ) → point_call_of l ps p q ≡ without (working.call_of l p) q
  unfolding point_call_of working.call_of
  none_is l p q =
      rw (accepts_none l p (length q)) (record_none (working.accept_of l p) p q)

  -- ---- of the calls: what a call with none leaves is what the call without leaves

  beneath : (r : Result Working Unworked) → working_in (uncounted r) ≡ r
  beneath (Err u) = refl
  beneath (Ok w) = refl

  accurate_beneath : {s : Segment} {p' : Profiles} (r : Result PointWorking Unworked) → ((v : PointWorking) → r ≡ Ok v → Accurate s v.working.pairs.rows p') →
      (w : Working) → working_in r ≡ Ok w → Accurate s w.pairs.rows p'
  accurate_beneath (Err u) h w e = ok_refused (sym e)
  accurate_beneath {s} {p'} (Ok v) h w e =
      let is : v.working ≡ w = cc in
      subst (λ (x : Working). Accurate s x.pairs.rows p') is (h v refl)

  none_blocked_of : (r : Result Working Unworked) (w : PointWorking) → uncounted r ≡ Ok w → w.blocked ≡ none_blocked
  none_blocked_of (Err u) w e = ok_refused (sym e)
  none_blocked_of (Ok v) w e = cc

  pub none_works : {l : List ℕ} {p : Profiles} {q : List ℕ} {r : Result PointWorking Unworked} {p' : Profiles} {q' : List ℕ} → PointWorks l ps p q r p' q' →
      working.Works l p (working_in r) p' × (q' ≡ q) × ((w : PointWorking) → r ≡ Ok w → w.blocked ≡ none_blocked)
  none_works {l} {p} {q} {r} h =
      let e = h.is ∙ none_is l p q in
      let c = working.call_of l p in (
        record {
          is = ap (λ (d : PointCalled). working.called (working_in d.answer) d.after) e
              ∙ ap (λ (x : Result Working Unworked). working.called x c.after) (beneath c.answer);
          accurate = accurate_beneath r h.accurate;
        },
        ap (λ (d : PointCalled). d.passing) e,
        λ w o. none_blocked_of c.answer w (sym (ap (λ (d : PointCalled). d.answer) e) ∙ o),
      )

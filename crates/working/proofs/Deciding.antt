-- The ways of the call, over plain variables.
use Rattle.std.specs.Prelude.{Result, Ok, Err}
use Rattle.std.proofs.Common.{ℕ, ◌*◌, ◌≡◌, ap, sym, subst, ◌∙◌, List, drop}
use Rattle.refusal.specs.declared.Refusal.{Refusal}
use Rattle.refusal.specs.Refusal.{ok_refused}
use Rattle.movements.specs.PerMovement.{Counts}
use Rattle.segment.specs.declared.Segment.{Segment}
use Rattle.metering.specs.Metering.{discharge_volumes}
use Rattle.balance_decision.specs.declared.Decision.{Decision}
use Rattle.balance_decision.specs.declared.Unworked.{Unworked}
use Rattle.balance_decision.specs.declared.Unworked.TheVariants.{Refused}
use Rattle.balance_decision.specs.Decision.{decision_of}
use Rattle.propagation.specs.Propagation.{Profiles, filled_of}
use Rattle.propagation.specs.Steps.{Room, FillFits}
use Rattle.accuracy.specs.Accuracy.{Accurate}
use Rattle.working_outcome.specs.declared.Working.{Working}
use Rattle.working_outcome.specs.Filled.{Filled}
use Rattle.working.specs.Working.{decision_for, called, by_decision, Works}
use Rattle.working.specs.Decided.{Decided, rows_fit}
use Rattle.working.proofs.Decided.{decided_accurate}
use Rattle.working.proofs.Ways.{accept_for, call_passed, call_accepted, call_refused}

-- ---- what the volumes decide

pub decided_is : (s : Segment) {o : Counts} {d : Result Decision Unworked} → o ≡ discharge_volumes s → d ≡ decision_of o s.exits s.seeds → d ≡ decision_for s
unfolding decision_for
decided_is s eo ed = ed ∙ rw eo

-- ---- filling what is decided to work

module _ {s : Segment} {d : Decision} {p : Profiles} (h : Decided s d p) {rows : List (List ℕ)} (er : rows ≡ d.pairs.rows) where
  pub fill_asks : FillFits s rows p
  fill_asks = record { shares = rw er (rows_fit s d h.works); room = h.room }

  pub filled : (p' : Profiles) → p' ≡ filled_of s rows p → Filled s d.pairs.rows p'.output
  unfolding filled_of
  filled p' ef = record { rest = drop (4 * s.cycle) p.output; is = ap (λ (q : Profiles). q.output) (rw er at ef) }

-- ---- what the record decides

module _ (l : List ℕ) (p : Profiles) where
  pub record_passed : (s : Segment) → accept_for l p ≡ Ok s → Room s.cycle p
  record_passed s e = (call_passed l p s e).1

  -- the call, worked or refused for its volumes
  pub record_worked : (s : Segment) → accept_for l p ≡ Ok s → (r : Result Working Unworked) (p' : Profiles) →
      called r p' ≡ by_decision s (decision_for s) p → Works l p r p'
  record_worked s e r p' q =
      let a = (call_passed l p s e).0 in
      record {
        is = q ∙ sym (call_accepted l p s e);
        accurate = λ w o. subst (λ (u : Segment). Accurate u w.pairs.rows p') a.is
            (decided_accurate s a.ranges p w p' (ap (λ (x : Result Working Unworked). called x p') (sym o) ∙ q));
      }

  -- refused for its record or a profile's length
  pub record_refused : (n : Refusal) → accept_for l p ≡ Err n → Works l p (Err (Refused n)) p
  record_refused n e = record { is = sym (call_refused l p n e); accurate = λ w o. ok_refused (sym o) }

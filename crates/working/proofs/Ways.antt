-- Laws of specs/Ways.antt.
use Rattle.std.specs.Prelude.{ℕ, ◌≤◌, ◌≡◌, refl, List, leb, Ok, Err, Result}
use Rattle.std.proofs.Common.{arith, ap, sym, ◌∙◌, leb-true}
use Rattle.refusal.specs.declared.Refusal.{Refusal}
use Rattle.refusal.specs.Refusal.{number, Or, ok_refused}
use Rattle.runs.specs.Runs.{run_at}
use Rattle.segment.specs.declared.Segment.{Segment}
use Rattle.segment.specs.Segment.{segment_of}
use Rattle.validation.specs.Accepted.{Accepted}
use Rattle.validation.proofs.Accepting.{accept_passed, accept_numbers}
use Rattle.balance_decision.specs.declared.Decision.{Decision}
use Rattle.balance_decision.specs.declared.Unworked.{Unworked}
use Rattle.balance_decision.specs.declared.Unworked.TheVariants.{Refused}
use Rattle.balance_decision.specs.Unworked.{unworked_number}
use Rattle.balance_decision.specs.Meaning.{decision_number}
use Rattle.metering.specs.Metering.{discharge_volumes}
use Rattle.propagation.specs.Propagation.{Profiles}
use Rattle.propagation.specs.Steps.{Room}
use Rattle.propagation.proofs.Filling.{filled_room}
use Rattle.working_outcome.specs.declared.Working.{Working}
use Rattle.working_outcome.specs.Answer.{run_of, worked_of}
use Rattle.working_outcome.specs.Filled.{filled_run}
use Rattle.working.specs.Working.{accept_of, decision_for, Called, called, by_decision, call_of}
use Rattle.working.specs.Decided.{fits_room}
use Rattle.working.proofs.Decided.{decided_works}
use Rattle.working.specs.Ways.{WorkedBy}

module _ (l : List ℕ) (p : Profiles) where
  abbrev pub accept_for : Or Segment
  accept_for = accept_of l p

  pub call_passed : (s : Segment) → accept_for ≡ Ok s → Accepted l s × Room s.cycle p
  call_passed s e = let a = accept_passed l _ s e in (a.0, fits_room s p (a.1 16))

  pub call_accepted : (s : Segment) → accept_for ≡ Ok s → call_of l p ≡ by_decision s (decision_for s) p
  unfolding call_of
  call_accepted s e = rw e

  pub call_refused : (r : Refusal) → accept_for ≡ Err r → call_of l p ≡ called (Err (Refused r)) p
  unfolding call_of
  call_refused r e = rw e

  pub call_worked : (w : Working) → (call_of l p).answer ≡ Ok w → WorkedBy l p w
  call_worked w e = go accept_for refl
    where
      go : (x : Or Segment) → accept_for ≡ x → WorkedBy l p w
      go (Err r) ex = ok_refused (sym e ∙ ap (λ (c : Called). c.answer) (call_refused r ex))
      go (Ok s) ex =
          let is = call_accepted s ex in
          let k = decided_works s (decision_for s) p w (sym (ap (λ (c : Called). c.answer) is) ∙ e) in
          record {
            segment = s;
            decision = k.0;
            accepted = (call_passed s ex).0;
            works = k.1;
            answer = k.2;
            is = is ∙ ap (λ (x : Result Decision Unworked). by_decision s x p) k.1;
          }

-- a call leaves its profiles the room that they had
decided_room : (s : Segment) (p : Profiles) → Room s.cycle p → {n : ℕ} → Room n p → (x : Result Decision Unworked) → Room n (by_decision s x p).after
decided_room s p fits r (Err u) = r
decided_room s p fits r (Ok d) = filled_room s d.pairs.rows p fits r

pub call_room : (l : List ℕ) (p : Profiles) {n : ℕ} → Room n p → Room n (call_of l p).after
call_room l p {n} r = go (accept_for l p) refl
  where
    go : (x : Or Segment) → accept_for l p ≡ x → Room n (call_of l p).after
    go (Err e) ex = rw (call_refused l p e ex) r
    go (Ok s) ex = rw (call_accepted l p s ex) (decided_room s p (call_passed l p s ex).1 r (decision_for s))

-- the through run that such a call leaves, whatever it was lent
pub call_through : (l : List ℕ) (p : Profiles) (w : Working) → (call_of l p).answer ≡ Ok w →
    run_at (segment_of l).cycle 1 (call_of l p).after.output ≡ run_of (segment_of l) w.pairs.rows 1
unfolding worked_of
call_through l p w e =
    let b = call_worked l p w e in
    let told : b.decision.pairs.rows ≡ w.pairs.rows = ap (λ (v : Working). v.pairs.rows) (sym b.answer) in
    rw (b.is, ← b.accepted.is)
    (filled_run b.segment b.decision.pairs.rows p 1 (omega arith) ∙ ap (λ (rows : List (List ℕ)). run_of b.segment rows 1) told)

-- the number of what does not work is one of those listed
number_by_volumes : (s : Segment) (p : Profiles) (u : Unworked) (x : Result Decision Unworked) → decision_for s ≡ x → (by_decision s x p).answer ≡ Err u →
    unworked_number u ≤ 16
unfolding decision_for
number_by_volumes s p u (Err v) ex e =
    let is : v ≡ u = cc in
    omega (arith, (decision_number (discharge_volumes s) s.exits s.seeds u (ex ∙ ap (λ (z : Unworked). Err z) is)).1)
number_by_volumes s p u (Ok d) ex e = ok_refused e

pub call_number : (l : List ℕ) (p : Profiles) (u : Unworked) → (call_of l p).answer ≡ Err u → unworked_number u ≤ 16
call_number l p u e = go (accept_for l p) refl
  where
    go : (x : Or Segment) → accept_for l p ≡ x → unworked_number u ≤ 16
    go (Err r) ex =
        let told : Err (Refused r) ≡ Err u = sym (ap (λ (c : Called). c.answer) (call_refused l p r ex)) ∙ e in
        let is : u ≡ Refused r = cc in
        rw is (leb-true (number r) 16 (accept_numbers l _ (λ m _. leb m 16) refl (λ s. refl) r ex))
    go (Ok s) ex = number_by_volumes s p u (decision_for s) refl (sym (ap (λ (c : Called). c.answer) (call_accepted l p s ex)) ∙ e)

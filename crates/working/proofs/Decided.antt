-- Laws of specs/Decided.antt.
use Rattle.std.specs.Prelude.{◌≡◌, Ok, Err, Result}
use Rattle.std.proofs.Common.{ap, sym, ◌∙◌}
use Rattle.refusal.specs.Refusal.{ok_refused}
use Rattle.segment.specs.declared.Segment.{Segment}
use Rattle.ranges.specs.Ranges.{Ranges}
use Rattle.balance_decision.specs.declared.Decision.{Decision}
use Rattle.balance_decision.specs.declared.Unworked.{Unworked}
use Rattle.propagation.specs.Propagation.{Profiles, filled_of}
use Rattle.accuracy.specs.Accuracy.{Accurate}
use Rattle.accuracy.proofs.Holds.{filled_accurate}
use Rattle.working_outcome.specs.declared.Working.{Working}
use Rattle.working_outcome.specs.Answer.{worked_of}
use Rattle.working.specs.Working.{decision_for, Called, called, worked_call, by_decision}
use Rattle.working.specs.Decided.{rows_fit}

-- an answer that works was decided to
pub decided_works : (s : Segment) (x : Result Decision Unworked) (p : Profiles) (w : Working) → (by_decision s x p).answer ≡ Ok w →
    (d : Decision) × (x ≡ Ok d) × (w ≡ worked_of s d)
decided_works s (Err u) p w e = ok_refused (sym e)
decided_works s (Ok d) p w e = (d, cc, cc)

-- ---- demand 3 of whatever is worked

filled_meets : (s : Segment) → Ranges s → (p : Profiles) (d : Decision) → decision_for s ≡ Ok d → (w : Working) (p' : Profiles) →
    called (Ok w) p' ≡ worked_call s d p → Accurate s w.pairs.rows p'
unfolding worked_of
filled_meets s r p d e w p' q =
    let answer : Ok w ≡ Ok (worked_of s d) = ap (λ (c : Called). c.answer) q in
    let is : w ≡ worked_of s d = cc in
    let rows : w.pairs.rows ≡ d.pairs.rows = ap (λ (v : Working). v.pairs.rows) is in
    let left : p' ≡ filled_of s d.pairs.rows p = ap (λ (c : Called). c.after) q in
    rw (rows, left) (filled_accurate s d.pairs.rows p r (rows_fit s d e))

pub decided_accurate : (s : Segment) → Ranges s → (p : Profiles) (w : Working) (p' : Profiles) → called (Ok w) p' ≡ by_decision s (decision_for s) p →
    Accurate s w.pairs.rows p'
decided_accurate s r p w p' q =
    let k = decided_works s (decision_for s) p w (sym (ap (λ (c : Called). c.answer) q)) in
    filled_meets s r p k.0 k.1 w p' (q ∙ ap (λ (x : Result Decision Unworked). by_decision s x p) k.1)

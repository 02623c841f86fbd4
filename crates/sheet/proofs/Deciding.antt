-- The ways of the call, from those of the working, over plain variables.
use Rattle.std.specs.Prelude.{ℕ, ◌+◌, ◌^◌, ◌≤◌, ◌<◌, ◌≡◌, refl, List, ◌++◌, length, drop, get_or, Result, Ok, Err}
use Rattle.std.proofs.Common.{arith, ap, sym, subst, ◌∙◌}
use Rattle.refusal.specs.declared.Refusal.{Refusal}
use Rattle.refusal.specs.Refusal.{ok_refused}
use Rattle.octets.specs.Octets.{word4}
use Rattle.buffer.specs.Buffer.{WroteAt}
use Rattle.buffer.proofs.Pieces.{wrote_fits}
use Rattle.segment.specs.declared.Segment.{Segment}
use Rattle.segment.specs.Layout.{number_at}
use Rattle.ranges.specs.Ranges.{Ranges}
use Rattle.validation.proofs.Accepting.{accept_passed}
use Rattle.balance_decision.specs.declared.Decision.{Decision}
use Rattle.balance_decision.specs.declared.Unworked.{Unworked}
use Rattle.balance_decision.specs.declared.Unworked.TheVariants.{Refused}
use Rattle.accuracy.specs.Accuracy.{Accurate}
use Rattle.propagation.specs.Propagation.{Profiles, filled_of}
use Rattle.propagation.specs.Steps.{Room}
use Rattle.working_outcome.specs.declared.Working.{Working}
use Rattle.working_outcome.specs.Answer.{worked_of}
use Rattle.working_outcome.proofs.Figures.{output_long}
use Rattle.working.specs.Working.{accept_of, decision_for, Called, called, worked_call, by_decision}
use Rattle.working.specs.Decided.{Decided}
use Rattle.working.proofs.Decided.{decided_accurate}
use Rattle.working.proofs.Deciding.{filled}
use Rattle.working.proofs.Ways.{accept_for, call_passed, call_accepted, call_refused}
use Rattle.page.specs.Page.{page_room}
use Rattle.sheet_page.specs.SheetPage.{worked_page}
use Rattle.sheet_page.proofs.Pages.{worked_long}
use Rattle.sheet.specs.Sheet.{sheet_called, printed, sheet_by, sheet_call_of, Sheets}
use Rattle.sheet.specs.Sized.{sheet_sized}
use Rattle.sheet.proofs.Laws.{beneath, page_laid_out, page_told}

-- ---- filling what is decided to work

-- the through run stands in the output
pub run_stands : {s : Segment} {d : Decision} {p : Profiles} → Decided s d p → {w : Working} {p' : Profiles} → called (Ok w) p' ≡ worked_call s d p →
    s.cycle + s.cycle ≤ length p'.output
run_stands h {p' = p'} e = omega (arith, output_long (filled h refl p' (ap (λ (c : Called). c.after) e)))

pub sheet_filled : {s : Segment} {d : Decision} {p : Profiles} → Ranges s → Decided s d p → (number : ℕ) → number < 2 ^ 32 →
    {w : Working} {p' : Profiles} → called (Ok w) p' ≡ worked_call s d p → (page : List ℕ) → page_room ≤ length page →
    {page' : List ℕ} {q : ℕ} → WroteAt page 0 (worked_page number s.cycle w p'.output) page' q →
    sheet_called (Ok w) p' page' ≡ printed number s.cycle (worked_of s d) (filled_of s d.pairs.rows p) page
sheet_filled {s} {d} {p} ranges h number four {w} {p'} e page room {page'} v =
    let text = worked_page number s.cycle w p'.output in
    let answer : Ok w ≡ Ok (worked_of s d) = ap (λ (c : Called). c.answer) e in
    let is : w ≡ worked_of s d = cc in
    let left : p' ≡ filled_of s d.pairs.rows p = ap (λ (c : Called). c.after) e in
    let long : length text ≡ page_room =
    rw (is, left) (worked_long (filled_of s d.pairs.rows p).output (sheet_sized s ranges d h.works p number four)) in
    let z : 0 + length text ≡ page_room = omega arith in
    let written : page' ≡ text ++ drop page_room page = rw z at (wrote_fits v (omega arith)).0 in
    ap (λ (b : List ℕ). sheet_called (Ok w) p' b) written
    ∙ ap (λ (x : Working). printed number s.cycle x p' page) is
    ∙ ap (λ (q : Profiles). printed number s.cycle (worked_of s d) q page) left

-- ---- what the record decides

pub record_passed : (l : List ℕ) (p : Profiles) (s : Segment) → accept_for l p ≡ Ok s → Room s.cycle p
record_passed l p s e = (call_passed l p s e).1

-- an accepted record has its number's bytes, whatever the lengths of the profiles
pub number_within : (l : List ℕ) (p : Profiles) (s : Segment) → accept_of l p ≡ Ok s → number_at + 4 ≤ length l
number_within l p s e = omega (arith, (accept_passed l _ s e).0.sized)

module _ (l : List ℕ) (p : Profiles) (page : List ℕ) where
  -- accepted: worked, or refused for its volumes or the page buffer
  pub record_accepted : ((i : ℕ) → get_or l i 0 < 256) → (s : Segment) → accept_for l p ≡ Ok s → {number : ℕ} → number ≡ word4 l number_at →
      (r : Result Working Unworked) (p' : Profiles) (page' : List ℕ) →
      sheet_called r p' page' ≡ sheet_by number s.cycle (by_decision s (decision_for s) p) p page → Sheets l p page r p' page'
  unfolding sheet_call_of
  record_accepted bytes s e {number} en r p' page' q =
      let a = (call_passed l p s e).0 in
      let is : sheet_called r p' page' ≡ sheet_call_of l p page = q ∙ rw (en, call_accepted l p s e, ← a.is) in
      let told : (w : Working) → r ≡ Ok w → sheet_called (Ok w) p' page' ≡ sheet_call_of l p page =
      λ w o. ap (λ (x : Result Working Unworked). sheet_called x p' page') (sym o) ∙ is in
      let under : (w : Working) → r ≡ Ok w → called (Ok w) p' ≡ by_decision s (decision_for s) p =
      λ w o. beneath l p page (told w o) ∙ call_accepted l p s e in
      record {
        is = is;
        accurate = λ w o. subst (λ (u : Segment). Accurate u w.pairs.rows p') a.is (decided_accurate s a.ranges p w p' (under w o));
        laid = λ w o. page_laid_out l p page (told w o) bytes;
        told = λ w o. page_told l p page (told w o) bytes;
      }

  -- refused for its record or a profile's length
  pub record_refused : (n : Refusal) → accept_for l p ≡ Err n → Sheets l p page (Err (Refused n)) p page
  unfolding sheet_call_of
  record_refused n e =
      record {
        is = rw (call_refused l p n e);
        accurate = λ w o. ok_refused (sym o);
        laid = λ w o. ok_refused (sym o);
        told = λ w o. ok_refused (sym o);
      }

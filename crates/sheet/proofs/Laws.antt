-- Laws that stood in specs/Laws.antt: What the call says where it works: the working beneath it, as called, and the page; and what the page then looks like.
use Rattle.std.specs.Prelude.{ℕ, ◌<◌, Bool, true, false, cond, ◌≡◌, List, ◌++◌, leb, length, drop, get_or, Result, Ok, Err}
use Rattle.std.proofs.Common.{ap, sym, subst, ◌∙◌}
use Rattle.refusal.specs.Refusal.{ok_refused}
use Rattle.octets.specs.Octets.{word4}
use Rattle.runs.specs.Runs.{run_at}
use Rattle.segment.specs.Layout.{number_at}
use Rattle.segment.specs.Segment.{segment_of}
use Rattle.balance_decision.specs.declared.Unworked.{Unworked}
use Rattle.propagation.specs.Propagation.{Profiles, pair_flow}
use Rattle.working_outcome.specs.declared.Working.{Working}
use Rattle.working.specs.Working.{called, call_of, Works}
use Rattle.page.specs.Page.{page_room}
use Rattle.page.specs.Laid.{Laid}
use Rattle.page.proofs.Laid.{page_laid}
use Rattle.sheet_page.specs.SheetPage.{worked_page}
use Rattle.sheet_page.specs.Fits.{SheetFits}
use Rattle.sheet_page.proofs.Fits.{sheet_fits, sheet_count}
use Rattle.sheet_page.specs.Told.{Told}
use Rattle.sheet_page.proofs.Told.{sheet_told}
use Rattle.sheet.specs.Sheet.{SheetCalled, sheet_called, printed, no_room, by_answer, sheet_call_of, Sheets}
use Rattle.sheet.specs.Sized.{called_sized}

-- ---- a call that works

module _ (number cycle : ℕ) (after p : Profiles) (page : List ℕ) {w : Working} {p' : Profiles} {page' : List ℕ} where
  -- the page buffer has room, or 21 would be told
  roomy : (b : Bool) (v : Working) → sheet_called (Ok w) p' page' ≡ cond b (printed number cycle v after page) (no_room p page) →
      sheet_called (Ok w) p' page' ≡ printed number cycle v after page
  roomy true v e = e
  roomy false v e = ok_refused (ap (λ (r : SheetCalled). r.answer) e)

  -- the working's refusals are told
  pub by_worked : (r : Result Working Unworked) → sheet_called (Ok w) p' page' ≡ by_answer r number cycle after p page →
      (r ≡ Ok w) × (sheet_called (Ok w) p' page' ≡ printed number cycle w after page)
  by_worked (Ok v) e =
      let prints = roomy (leb page_room (length page)) v e in
      let told : Ok w ≡ Ok v = ap (λ (r : SheetCalled). r.answer) prints in
      let same : v ≡ w = cc in
      (cc, prints ∙ ap (λ (x : Working). printed number cycle x after page) same)
  by_worked (Err u) e = ok_refused (ap (λ (r : SheetCalled). r.answer) e)

-- ---- a call that works, from its answer, profiles and buffer alone

module _ (l : List ℕ) (p : Profiles) (page : List ℕ) {w : Working} {p' : Profiles} {page' : List ℕ}
    (is : sheet_called (Ok w) p' page' ≡ sheet_call_of l p page) where
  prints : ((call_of l p).answer ≡ Ok w) × (sheet_called (Ok w) p' page' ≡ printed (word4 l number_at) (segment_of l).cycle w (call_of l p).after page)
  unfolding sheet_call_of
  prints = by_worked (word4 l number_at) (segment_of l).cycle (call_of l p).after p page (call_of l p).answer is

  left : p' ≡ (call_of l p).after
  left = ap (λ (s : SheetCalled). s.after) prints.1

  -- the working beneath, as called
  pub beneath : called (Ok w) p' ≡ call_of l p
  beneath = ap (λ (q : Profiles). called (Ok w) q) left ∙ ap (λ (r : Result Working Unworked). called r (call_of l p).after) (sym prints.0)

  -- the buffer holds the page of the record's number, the answer's figures and the output at exit, and what stood behind it
  pub page_is : page' ≡ worked_page (word4 l number_at) (segment_of l).cycle w p'.output ++ drop page_room page
  page_is =
      ap (λ (s : SheetCalled). s.page) prints.1
      ∙ ap (λ (q : Profiles). worked_page (word4 l number_at) (segment_of l).cycle w q.output ++ drop page_room page) (sym left)

  module _ (bytes : (i : ℕ) → get_or l i 0 < 256) where
    fits : SheetFits (word4 l number_at) (segment_of l).cycle w (run_at (segment_of l).cycle 1 p'.output)
    fits =
        subst (λ (q : Profiles). SheetFits (word4 l number_at) (segment_of l).cycle w (run_at (segment_of l).cycle 1 q.output))
        (sym left) (called_sized l bytes p w prints.0)

    pub page_laid_out : Laid page'
    unfolding worked_page
    page_laid_out = rw page_is (page_laid (sheet_fits fits) (sheet_count fits) (drop page_room page))

    pub page_told : Told (pair_flow w.pairs.rows) (run_at (segment_of l).cycle 1 p'.output) page'
    unfolding worked_page
    page_told = rw page_is (sheet_told fits (drop page_room page))

-- ---- of the call as called

module _ {l : List ℕ} {p : Profiles} {page : List ℕ} {r : Result Working Unworked} {p' : Profiles} {page' : List ℕ} (h : Sheets l p page r p' page')
    (w : Working) (worked : r ≡ Ok w) where
  is : sheet_called (Ok w) p' page' ≡ sheet_call_of l p page
  is = ap (λ (x : Result Working Unworked). sheet_called x p' page') (sym worked) ∙ h.is

  -- it is the working without points
  pub sheet_works : Works l p r p'
  sheet_works = record { is = ap (λ (x : Result Working Unworked). called x p') worked ∙ beneath l p page is; accurate = h.accurate }

  -- and the page is of its figures
  pub sheet_page : page' ≡ worked_page (word4 l number_at) (segment_of l).cycle w p'.output ++ drop page_room page
  sheet_page = page_is l p page is

-- Laws that stood in specs/Pages.antt: A record's page reads the output by its through run alone, and has the bytes of a page.
use Rattle.std.specs.Prelude.{ℕ, ◌^◌, ◌<◌, ◌≡◌, refl, List, Result, Ok, Err, length}
use Rattle.std.proofs.Common.{arith, ap}
use Rattle.runs.specs.Runs.{run_at}
use Rattle.balance_decision.specs.declared.Unworked.{Unworked}
use Rattle.balance_decision.specs.Unworked.{unworked_number}
use Rattle.working_outcome.specs.declared.Working.{Working}
use Rattle.page.specs.Page.{page_room, page}
use Rattle.page.specs.Laid.{none, one}
use Rattle.page.proofs.Laid.{page_length}
use Rattle.sheet_page.specs.SheetPage.{sheet_lines, worked_page, refused_page, record_page}
use Rattle.sheet_page.specs.Fits.{SheetFits, refused_fits}
use Rattle.sheet_page.proofs.Fits.{sheet_fits, sheet_count}

pub page_through : (number cycle : ℕ) (r : Result Working Unworked) (out out' : List ℕ) →
    ((w : Working) → r ≡ Ok w → run_at cycle 1 out ≡ run_at cycle 1 out') → record_page number cycle r out ≡ record_page number cycle r out'
unfolding record_page worked_page
page_through number cycle (Ok w) out out' h = ap (λ (run : List ℕ). page (sheet_lines number cycle w run)) (h w refl)
page_through number cycle (Err u) out out' h = refl

pub worked_long : {number cycle : ℕ} {w : Working} (out : List ℕ) → SheetFits number cycle w (run_at cycle 1 out) →
    length (worked_page number cycle w out) ≡ page_room
unfolding worked_page
worked_long out h = page_length (sheet_fits h) (sheet_count h)

refused_long : (number k : ℕ) → number < 10 ^ 10 → k < 10 ^ 10 → length (refused_page number k) ≡ page_room
unfolding refused_page
refused_long number k hn hk = page_length (one (refused_fits number k hn hk) none) (omega arith)

pub record_long : (number cycle : ℕ) (r : Result Working Unworked) (out : List ℕ) → number < 10 ^ 10 →
    ((w : Working) → r ≡ Ok w → SheetFits number cycle w (run_at cycle 1 out)) → ((u : Unworked) → r ≡ Err u → unworked_number u < 10 ^ 10) →
    length (record_page number cycle r out) ≡ page_room
unfolding record_page
record_long number cycle (Ok w) out hn fits hk = worked_long out (fits w refl)
record_long number cycle (Err u) out hn fits hk = refused_long number (unworked_number u) hn (hk u refl)

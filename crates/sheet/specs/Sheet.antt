-- The exam sheet of a segment record (paper 02, request 3): its working without points, then the page of its figures. What the call
-- answers and leaves in three lent profiles and a page buffer, on every way.
use Rattle.std.specs.Prelude.{ℕ, cond, ◌≡◌, List, ◌++◌, leb, length, drop, Result, Ok, Err}
use Rattle.refusal.specs.declared.Refusal.TheVariants.{PageRoom}
use Rattle.octets.specs.Octets.{word4}
use Rattle.runs.specs.Runs.{run_at}
use Rattle.segment.specs.Layout.{number_at}
use Rattle.segment.specs.Segment.{segment_of}
use Rattle.balance_decision.specs.declared.Unworked.{Unworked}
use Rattle.balance_decision.specs.declared.Unworked.TheVariants.{Refused}
use Rattle.propagation.specs.Propagation.{Profiles, pair_flow}
use Rattle.accuracy.specs.Accuracy.{Accurate}
use Rattle.working_outcome.specs.declared.Working.{Working}
use Rattle.working.specs.Working.{Called, call_of}
use Rattle.page.specs.Page.{page_room}
use Rattle.page.specs.Laid.{Laid}
use Rattle.sheet_page.specs.SheetPage.{worked_page}
use Rattle.sheet_page.specs.Told.{Told}

-- the answer, the three profiles and the page buffer afterwards
pub record SheetCalled : Type 0 where
  pub answer : Result Working Unworked
  pub after : Profiles
  pub page : List ℕ

abbrev pub sheet_called : Result Working Unworked → Profiles → List ℕ → SheetCalled
sheet_called r p page = record { answer = r; after = p; page = page }

-- the figures and what the working leaves, and in front of the buffer the page of the record's number, the figures and the output as it
-- is left; bytes beyond the page stay
abbrev pub printed : (number cycle : ℕ) → Working → (after : Profiles) → List ℕ → SheetCalled
printed number cycle w after page = sheet_called (Ok w) after (worked_page number cycle w after.output ++ drop page_room page)

-- a buffer without room for the page is refused last; profiles and buffer stay
abbrev pub no_room : Profiles → List ℕ → SheetCalled
no_room p page = sheet_called (Err (Refused PageRoom)) p page

-- by what the working answers: its refusals are the call's
abbrev pub by_answer : Result Working Unworked → (number cycle : ℕ) → (after p : Profiles) → List ℕ → SheetCalled
by_answer (Ok w) number cycle after p page = cond (leb page_room (length page)) (printed number cycle w after page) (no_room p page)
by_answer (Err u) number cycle after p page = sheet_called (Err u) after page

abbrev pub sheet_by : (number cycle : ℕ) → Called → Profiles → List ℕ → SheetCalled
sheet_by number cycle c p page = by_answer c.answer number cycle c.after p page

unfoldable pub sheet_call_of : List ℕ → Profiles → List ℕ → SheetCalled
sheet_call_of l p page = sheet_by (word4 l number_at) (segment_of l).cycle (call_of l p) p page

-- the call as called: its answer, all three profiles and the page buffer; and of all that it accepts demand 3, that the page has sixty
-- lines of 72 bytes and a newline, and that each pair flow and each step's thousands stand in columns of their own and read back
pub record Sheets (l : List ℕ) (p : Profiles) (page : List ℕ) (r : Result Working Unworked) (p' : Profiles) (page' : List ℕ) : Type 0 where
  pub is : sheet_called r p' page' ≡ sheet_call_of l p page
  pub accurate : (w : Working) → r ≡ Ok w → Accurate (segment_of l) w.pairs.rows p'
  pub laid : (w : Working) → r ≡ Ok w → Laid page'
  pub told : (w : Working) → r ≡ Ok w → Told (pair_flow w.pairs.rows) (run_at (segment_of l).cycle 1 p'.output) page'

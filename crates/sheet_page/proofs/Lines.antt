-- The rows of a run and the lines of the entries, the next of those left and none; and the page from its parts.
use Rattle.std.specs.Prelude.{ℕ, zero, suc, ◌+◌, ◌-◌, ◌*◌, ◌≤◌, ◌<◌, min, ◌≡◌, refl, List, [], ◌++◌, length, take, drop}
use Rattle.std.proofs.Common.{arith, ap, ◌∙◌, length-append, length-drop}
use Rattle.std.proofs.Math.ListN.{drop_of_length-le}
use Rattle.std.proofs.Math.Seq.{length-take-le}
use Rattle.std.proofs.lemmas.List.{take_at, drop_at, take_min, drop_min}
use Rattle.buffer.specs.Buffer.{Cursor, put}
use Rattle.buffer.proofs.Pieces.{put_append}
use Rattle.working_outcome.specs.declared.Working.{Working}
use Rattle.text.specs.Text.{columns}
use Rattle.page.specs.Page.{page_lines, line, lines, blank_lines, page}
use Rattle.page.specs.Laws.{lines_append}
use Rattle.sheet_page.specs.Fits.{head_lines_count}
use Rattle.sheet_page.proofs.Fits.{flow_lines_count}
use Rattle.sheet_page.specs.SheetPage.{flow_width, flow_unit, row_steps, rows_for, pair_words, pair_lines, flow_lines, head_lines, sheet_lines, worked_page}

-- ---- a run

-- the rows of a run, as lines
abbrev pub run_lines : List ℕ → List ℕ
run_lines run = lines (flow_lines (rows_for (length run)) run)

rows_next : (n : ℕ) → 0 < n → rows_for n ≡ suc (rows_for (n - row_steps))
rows_next n h = omega arith

run_first : (run : List ℕ) → 0 < length run → run_lines run ≡ line (columns flow_width flow_unit (take row_steps run)) ++ run_lines (drop row_steps run)
unfolding flow_lines lines
run_first run h = rw (length-drop, rows_next (length run) h)

-- the next row, of the steps left
pub run_next : (rest row left : List ℕ) → rest ≡ row ++ left → length row ≡ min row_steps (length rest) → 0 < length rest →
    run_lines rest ≡ line (columns flow_width flow_unit row) ++ run_lines left
run_next rest row left e n more =
    let front : take (length row) rest ≡ row = rw e (take_at row left (length row) refl) in
    let behind : drop (length row) rest ≡ left = rw e (drop_at row left (length row) refl) in
    let first : take (length row) rest ≡ take row_steps rest = ap (λ k. take k rest) n ∙ take_min row_steps rest in
    let others : drop (length row) rest ≡ drop row_steps rest = ap (λ k. drop k rest) n ∙ drop_min row_steps rest in
    rw (← first, front, ← others, behind) at (run_first rest more)

pub run_none : (rest : List ℕ) → length rest ≡ 0 → run_lines rest ≡ []
unfolding flow_lines lines
run_none rest h = rw h

-- ---- the pair flows

pub pairs_next : (rows : List (List ℕ)) (i : ℕ) → i < 4 → lines (drop i (pair_lines rows)) ≡ line (pair_words rows i) ++ lines (drop (i + 1) (pair_lines rows))
unfolding lines
pairs_next rows zero h = refl
pairs_next rows (suc zero) h = refl
pairs_next rows (suc (suc zero)) h = refl
pairs_next rows (suc (suc (suc zero))) h = refl
pairs_next rows (suc (suc (suc (suc i)))) h = absurd (omega arith)

pub pairs_none : (rows : List (List ℕ)) (i : ℕ) → 4 ≤ i → lines (drop i (pair_lines rows)) ≡ []
unfolding lines
pairs_none rows i h = rw (drop_of_length-le (pair_lines rows) {i = i} h) refl

-- ---- the page

-- the lines above the run, the run, and blank lines
pub page_done : (c : Cursor) (number cycle : ℕ) (w : Working) (output : List ℕ) → cycle + cycle ≤ length output →
    put c (worked_page number cycle w output) ≡
    put (put (put c (lines (head_lines number cycle w))) (run_lines (take (cycle + cycle - cycle) (drop cycle output))))
    (blank_lines (page_lines - (8 + rows_for cycle)))
unfolding worked_page sheet_lines page
page_done c number cycle w output room =
    let width : cycle + cycle - cycle ≡ cycle = omega arith in
    let one : 1 * cycle ≡ cycle = omega arith in
    let long : length (take cycle (drop cycle output)) ≡ cycle = length-take-le cycle (drop cycle output) (simp length-drop (omega arith)) in
    rw (one, lines_append, length-append, head_lines_count, flow_lines_count, long, width, long, put_append, put_append)

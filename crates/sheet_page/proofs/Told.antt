-- Laws of specs/Told.antt: Where each number of a sheet stands on its page, and that its digits read back as the number.
use Prim.Native.Nat.{ℕ, zero, suc, ◌+◌, ◌*◌, ◌/◌, ◌%◌, ◌^◌, ◌<◌}
use Rattle.std.proofs.Common.{div-le_self, div-one, ap, sym, ◌∙◌, length-take, length-drop, drop-drop, get_or-append-add}
use native.Mathlib.Omega.{arith}
use Rattle.std.specs.Prelude.{◌≡◌, take, drop}
use Rattle.std.proofs.Math.Path.{refl}
use mathlib.Core.List.{List, [], ◌++◌}
use Rattle.std.proofs.Math.ListN.{length, get_or}
use Rattle.std.proofs.Math.Seq.{get_or-take, get_or-drop}
use Rattle.runs.specs.Runs.{run_at}
use Rattle.working_outcome.specs.declared.Working.{Working}
use Rattle.text.specs.Text.{column, columns}
use Rattle.text.proofs.ColumnsLaws.{column_at, column_read}
use Rattle.page.specs.Page.{page_lines, line_end, line, page}
use Rattle.page.specs.Laid.{line_room}
use Rattle.page.proofs.Laid.{page_line}
use Rattle.sheet_page.specs.SheetPage.{pair_width, pair_unit, flow_width, flow_unit, row_steps, rows_for, pair_words, flow_lines, head_lines, sheet_lines}
use Rattle.sheet_page.specs.Fits.{SheetFits, pair_digits, flow_digits, pairs_within, flows_within, first_below}
use Rattle.sheet_page.specs.Fits.{head_lines_count}
use Rattle.sheet_page.proofs.Fits.{sheet_fits, sheet_count}
use Rattle.sheet_page.specs.Told.{pair_column, flow_column, Told}

-- row k of a run
flow_line_at : (n : ℕ) (run : List ℕ) (k : ℕ) → k < n → get_or (flow_lines n run) k [] ≡ columns flow_width flow_unit (run_at row_steps k run)
unfolding flow_lines
flow_line_at zero run k m = absurd (omega arith)
flow_line_at (suc n) run zero m = refl
flow_line_at (suc n) run (suc k) m =
    let e : suc k * row_steps ≡ row_steps + k * row_steps = omega arith in
    flow_line_at n (drop row_steps run) k (omega arith)
    ∙ ap (λ (l : List ℕ). columns flow_width flow_unit (take row_steps l)) (drop-drop (k * row_steps) row_steps run ∙ ap (λ (m : ℕ). drop m run) (sym e))

module _ {number cycle : ℕ} {w : Working} {run : List ℕ} (h : SheetFits number cycle w run) (behind : List ℕ) where
  abbrev sheet : List ℕ
  sheet = page (sheet_lines number cycle w run) ++ behind

  abbrev pairs : ℕ → ℕ → ℕ
  pairs i j = get_or (get_or w.pairs.rows i []) j 0

  text_of : (i : ℕ) → i < page_lines → run_at line_room i sheet ≡ line (get_or (sheet_lines number cycle w run) i [])
  text_of i m = page_line (sheet_fits h) (sheet_count h) behind i m

  pair_text : (i : ℕ) → i < 4 → get_or (sheet_lines number cycle w run) (1 + i) [] ≡ pair_words w.pairs.rows i
  unfolding sheet_lines head_lines
  pair_text zero m = refl
  pair_text (suc zero) m = refl
  pair_text (suc (suc zero)) m = refl
  pair_text (suc (suc (suc zero))) m = refl
  pair_text (suc (suc (suc (suc i)))) m = absurd (omega arith)

  pair_stands : (i j : ℕ) → i < 4 → j < 4 → pair_column sheet i j ≡ column pair_width (pairs i j)
  unfolding line
  pair_stands i j m n =
      let row = get_or w.pairs.rows i [] in
      rw (text_of (1 + i) (omega arith), pair_text i m)
      (column_at pair_width pair_unit row (line_end (length (pair_words w.pairs.rows i))) (pairs_within row (λ k. h.pairs i k m)) j
      (omega (arith, h.four i m)) ∙ rw div-one)

  flow_text : (k : ℕ) → k < rows_for (length run) → get_or (sheet_lines number cycle w run) (8 + k) [] ≡ columns flow_width flow_unit (run_at row_steps k run)
  unfolding sheet_lines
  flow_text k m =
      rw (← (head_lines_count number cycle w)) (get_or-append-add (head_lines number cycle w) (flow_lines (rows_for (length run)) run) k [])
      ∙ flow_line_at (rows_for (length run)) run k m

  flow_stands : (s : ℕ) → s < length run → flow_column sheet s ≡ column flow_width (get_or run s 0 / flow_unit)
  unfolding line
  flow_stands s m =
      let k = s / row_steps in
      let q = s % row_steps in
      let row = run_at row_steps k run in
      let split : k * row_steps + q ≡ s = omega arith in
      let here : q < row_steps = omega arith in
      let inside : q < length row = simp (length-take, length-drop) (omega arith) in
      let number_is : get_or row q 0 ≡ get_or run s 0 =
      get_or-take row_steps (drop (k * row_steps) run) q 0 here ∙ get_or-drop (k * row_steps) run q 0 ∙ rw split in
      let below : (i : ℕ) → get_or row i 0 < 10 ^ 8 = first_below (10 ^ 8) row_steps (drop (k * row_steps) run) (omega arith)
      (λ i. rw get_or-drop (h.flows (k * row_steps + i))) in
      rw (text_of (8 + k) (omega (arith, h.steps)), flow_text k (omega arith))
      (column_at flow_width flow_unit row (line_end (length (columns flow_width flow_unit row))) (flows_within row below) q inside ∙ rw number_is)

  pub sheet_told : Told pairs run sheet
  sheet_told =
      record {
        pairs_stand = pair_stands;
        pairs_digits = λ i j m n. rw div-one at (pair_digits (pairs i j) (h.pairs i j m));
        pairs_read = λ i j m n. rw (pair_stands i j m n) (column_read pair_width (pairs i j) (omega (arith, h.pairs i j m)));
        flows_stand = flow_stands;
        flows_digits = λ s m. flow_digits (get_or run s 0) (h.flows s);
        flows_read = λ s m. rw (flow_stands s m)
            (column_read flow_width (get_or run s 0 / flow_unit) (omega (arith, h.flows s, div-le_self (get_or run s 0) flow_unit)));
      }

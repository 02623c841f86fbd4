-- Laws of specs/Fits.antt.
use Rattle.std.specs.Prelude.{ℕ, zero, suc, ◌+◌, ◌^◌, ◌≤◌, ◌<◌, true, ◌≡◌, List, [], ◌++◌, length, take, drop, get_or}
use Rattle.std.proofs.Common.{arith, ap, length-append, length-take, get_or-drop}
use Rattle.std.proofs.Math.Path.{refl}
use Rattle.exit_figures.specs.declared.ExitFigures.{ExitFigures}
use Rattle.working_outcome.specs.declared.Working.{Working}
use Rattle.text.specs.Text.{field, columns}
use Rattle.text.proofs.Digits.{field_within}
use Rattle.text.specs.Columns.{printed, printed_append}
use Rattle.text.proofs.ColumnsLaws.{columns_length, field_printed, columns_printed}
use Rattle.page.specs.Page.{page_lines}
use Rattle.page.specs.Laid.{Fits, AllFit, none, one, fit_append}
use Rattle.report_lines.specs.Lines.{exit_label, green_label, permille_label}
use Rattle.report_lines.specs.Lines.{letter_l, letter_t, letter_r, exit_words}
use Rattle.sheet_page.specs.SheetPage.{pair_width, pair_unit, flow_width, flow_unit, row_steps, rows_for, pair_words}
use Rattle.sheet_page.specs.SheetPage.{flow_lines, head_lines, sheet_lines}
use Rattle.sheet_page.specs.Fits.{ExitFits, SheetFits, record_fits, pairs_within, flows_within, first_below, head_lines_count}

exit_fits : (letter : ℕ) → printed (exit_label letter) ≡ true → (f : ExitFigures) → ExitFits f → Fits (exit_words (exit_label letter) f)
unfolding exit_words printed
exit_fits letter hl f h =
    let a = field (exit_label letter) f.total in
    let b = field green_label f.green in
    let c = field permille_label f.permille in
    let ab = printed_append a b (field_printed (exit_label letter) f.total hl) (field_printed green_label f.green refl) in
    record {
      wide = rw (length-append, length-append)
          (omega (
            arith,
            field_within (exit_label letter) 10 f.total h.total,
            field_within green_label 10 f.green h.green,
            field_within permille_label 3 f.permille h.permille,
          ));
      bytes = printed_append (a ++ b) c ab (field_printed permille_label f.permille refl);
    }

row_fits : (run : List ℕ) → ((i : ℕ) → get_or run i 0 < 10 ^ 8) → Fits (columns flow_width flow_unit (take row_steps run))
row_fits run h =
    let row = take row_steps run in
    let within = flows_within row (first_below (10 ^ 8) row_steps run (omega arith) h) in
    let most : length row ≤ row_steps = simp length-take (omega arith) in
    record { wide = rw (columns_length flow_width flow_unit row within) (omega arith); bytes = columns_printed flow_width flow_unit row }

flow_lines_fit : (n : ℕ) (run : List ℕ) → ((i : ℕ) → get_or run i 0 < 10 ^ 8) → AllFit (flow_lines n run)
unfolding flow_lines
flow_lines_fit zero run h = none
flow_lines_fit (suc n) run h = one (row_fits run h) (flow_lines_fit n (drop row_steps run) (λ i. rw get_or-drop (h (row_steps + i))))

-- ---- the sheet

pub flow_lines_count : (n : ℕ) (run : List ℕ) → length (flow_lines n run) ≡ n
unfolding flow_lines
flow_lines_count zero run = refl
flow_lines_count (suc n) run = ap suc (flow_lines_count n (drop row_steps run))

module _ {number cycle : ℕ} {w : Working} {run : List ℕ} (h : SheetFits number cycle w run) where
  pair_fits : (i : ℕ) → i < 4 → Fits (pair_words w.pairs.rows i)
  pair_fits i m =
      let row = get_or w.pairs.rows i [] in
      record {
        wide = rw (columns_length pair_width pair_unit row (pairs_within row (λ j. h.pairs i j m)), h.four i m) (omega arith);
        bytes = columns_printed pair_width pair_unit row;
      }

  head_lines_fit : AllFit (head_lines number cycle w)
  unfolding head_lines printed
  head_lines_fit =
      one (record_fits number cycle w.arrival w.rounds h.ten h.three h.arrival h.rounds)
      (one (pair_fits 0 (omega arith)) (one (pair_fits 1 (omega arith)) (one (pair_fits 2 (omega arith)) (one (pair_fits 3 (omega arith))
      (one (exit_fits letter_l refl w.left h.left) (one (exit_fits letter_t refl w.through h.through)
      (one (exit_fits letter_r refl w.right h.right) none)))))))

  pub sheet_fits : AllFit (sheet_lines number cycle w run)
  unfolding sheet_lines
  sheet_fits = fit_append head_lines_fit (flow_lines_fit (rows_for (length run)) run h.flows)

  pub sheet_count : length (sheet_lines number cycle w run) ≤ page_lines
  unfolding sheet_lines
  sheet_count = rw (length-append, head_lines_count, flow_lines_count) (omega (arith, h.steps))

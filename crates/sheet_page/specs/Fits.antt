-- What keeps a sheet within its page: numbers of so many digits, four pair flows to a row, a run of no more steps than rows are left for.
use Rattle.std.specs.Prelude.{ℕ, zero, suc, ◌/◌, ◌^◌, ◌≤◌, ◌<◌, ◌≡◌, List, [], ◌∷◌, ◌++◌, length, take, get_or}
use Rattle.std.proofs.Common.{div-le_self, arith, length-append}
use Rattle.std.proofs.Math.Path.{refl}
use Rattle.exit_figures.specs.declared.ExitFigures.{ExitFigures}
use Rattle.working_outcome.specs.declared.Working.{Working}
use Rattle.text.specs.Text.{decimal, field}
use Rattle.text.proofs.Digits.{field_within}
use Rattle.text.specs.Columns.{Within, printed, printed_append}
use Rattle.text.proofs.ColumnsLaws.{decimal_length, field_printed}
use Rattle.page.specs.Laid.{Fits}
use Rattle.report_lines.specs.Lines.{record_label, cycle_label, shift_label, rounds_label, refused_label}
use Rattle.report_lines.specs.Lines.{record_words, refused_words}
use Rattle.sheet_page.specs.SheetPage.{pair_width, pair_unit, flow_width, flow_unit}
use Rattle.sheet_page.specs.SheetPage.{head_lines}

pub record ExitFits (f : ExitFigures) : Type 0 where
  pub total : f.total < 10 ^ 11
  pub green : f.green < 10 ^ 11
  pub permille : f.permille < 10 ^ 4

pub record SheetFits (number cycle : ℕ) (w : Working) (run : List ℕ) : Type 0 where
  pub ten : number < 10 ^ 10
  pub three : cycle < 10 ^ 3
  pub arrival : w.arrival < 10 ^ 3
  pub rounds : w.rounds < 10 ^ 3
  pub four : (i : ℕ) → i < 4 → length (get_or w.pairs.rows i []) ≡ 4
  pub pairs : (i j : ℕ) → i < 4 → get_or (get_or w.pairs.rows i []) j 0 < 10 ^ 8
  pub left : ExitFits w.left
  pub through : ExitFits w.through
  pub right : ExitFits w.right
  pub flows : (i : ℕ) → get_or run i 0 < 10 ^ 8
  pub steps : length run ≤ 240

-- ---- the lines shared with the program

pub record_fits : (number cycle arrival rounds : ℕ) → number < 10 ^ 10 → cycle < 10 ^ 3 → arrival < 10 ^ 3 → rounds < 10 ^ 3 →
    Fits (record_words number cycle arrival rounds)
unfolding record_words printed
record_fits number cycle arrival rounds hn hc ha hr =
    let a = field record_label number in
    let b = field cycle_label cycle in
    let c = field shift_label arrival in
    let d = field rounds_label rounds in
    let ab = printed_append a b (field_printed record_label number refl) (field_printed cycle_label cycle refl) in
    let abc = printed_append (a ++ b) c ab (field_printed shift_label arrival refl) in
    record {
      wide = rw (length-append, length-append, length-append)
          (omega (
            arith,
            field_within record_label 9 number hn,
            field_within cycle_label 2 cycle hc,
            field_within shift_label 2 arrival ha,
            field_within rounds_label 2 rounds hr,
          ));
      bytes = printed_append (a ++ b ++ c) d abc (field_printed rounds_label rounds refl);
    }

pub refused_fits : (number k : ℕ) → number < 10 ^ 10 → k < 10 ^ 10 → Fits (refused_words number k)
unfolding refused_words printed
refused_fits number k hn hk =
    record {
      wide = rw length-append (omega (arith, field_within record_label 9 number hn, field_within refused_label 9 k hk));
      bytes = printed_append (field record_label number) (field refused_label k) (field_printed record_label number refl) (field_printed refused_label k refl);
    }

-- ---- numbers in columns

-- a pair flow has at most eight digits of its eleven columns
pub pair_digits : (n : ℕ) → n < 10 ^ 8 → length (decimal (n / pair_unit)) ≤ 8
pair_digits n h = decimal_length 7 (n / pair_unit) (omega (arith, div-le_self n pair_unit))

-- a flow's thousands at most five of their seven
pub flow_digits : (n : ℕ) → n < 10 ^ 8 → length (decimal (n / flow_unit)) ≤ 5
flow_digits n h = decimal_length 4 (n / flow_unit) (omega arith)

pub pairs_within : (row : List ℕ) → ((j : ℕ) → get_or row j 0 < 10 ^ 8) → Within pair_width pair_unit row
pairs_within row h j = omega (arith, pair_digits (get_or row j 0) (h j))

pub flows_within : (row : List ℕ) → ((i : ℕ) → get_or row i 0 < 10 ^ 8) → Within flow_width flow_unit row
flows_within row h i = omega (arith, flow_digits (get_or row i 0) (h i))

-- the first few of numbers below a bound are below it
pub first_below : (b k : ℕ) (l : List ℕ) → 0 < b → ((i : ℕ) → get_or l i 0 < b) → (i : ℕ) → get_or (take k l) i 0 < b
first_below b zero l pos h i = pos
first_below b (suc k) [] pos h i = pos
first_below b (suc k) (x ∷ l) pos h zero = h 0
first_below b (suc k) (x ∷ l) pos h (suc i) = first_below b k l pos (λ j. h (suc j)) i

pub head_lines_count : (number cycle : ℕ) (w : Working) → length (head_lines number cycle w) ≡ 8
unfolding head_lines
head_lines_count number cycle w = refl

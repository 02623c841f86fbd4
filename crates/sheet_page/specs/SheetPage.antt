-- The exam sheet of a segment record on one page (paper 02, request 3), from its number, its cycle, what its working answered and the
-- output that the working left. Paper 02's words: a card is a segment record, grains are flow units.
use Rattle.std.specs.Prelude.{ℕ, zero, suc, ◌+◌, ◌/◌, ◌≤◌, ◌≡◌, List, [], ◌∷◌, ◌++◌, Result, Ok, Err, length, take, drop, get_or}
use Rattle.runs.specs.Runs.{run_at}
use Rattle.balance_decision.specs.declared.Unworked.{Unworked}
use Rattle.balance_decision.specs.Unworked.{unworked_number}
use Rattle.working_outcome.specs.declared.Working.{Working}
use Rattle.text.specs.Text.{columns}
use Rattle.page.specs.Page.{page}
use Rattle.report_lines.specs.Lines.{exit_label, letter_l, letter_t, letter_r, record_words, exit_words, refused_words}

-- the columns of a pair flow, told as it is
abbrev pub pair_width : ℕ
pair_width = 11

abbrev pub pair_unit : ℕ
pair_unit = 1

-- the columns of a step's flow, told in thousands rounded down
abbrev pub flow_width : ℕ
flow_width = 7

abbrev pub flow_unit : ℕ
flow_unit = 1000

-- the steps of a row; so many rows hold a run of n steps, the last perhaps shorter
abbrev pub row_steps : ℕ
row_steps = 10

abbrev pub rows_for : ℕ → ℕ
rows_for n = (n + 9) / row_steps

-- ---- the lines

-- the four pair flows of an entry, counted from 0
abbrev pub pair_words : List (List ℕ) → ℕ → List ℕ
pair_words rows entry = columns pair_width pair_unit (get_or rows entry [])

-- a line for each entry
abbrev pub pair_lines : List (List ℕ) → List (List ℕ)
pair_lines rows = pair_words rows 0 ∷ pair_words rows 1 ∷ pair_words rows 2 ∷ pair_words rows 3 ∷ []

-- so many rows of a run
unfoldable pub flow_lines : ℕ → List ℕ → List (List ℕ)
flow_lines zero run = []
flow_lines (suc n) run = columns flow_width flow_unit (take row_steps run) ∷ flow_lines n (drop row_steps run)

-- the lines of the three signalised exits
abbrev pub exit_lines : Working → List (List ℕ)
exit_lines w = exit_words (exit_label letter_l) w.left ∷ exit_words (exit_label letter_t) w.through ∷ exit_words (exit_label letter_r) w.right ∷ []

-- the sheet above its run: the record, its pair flows, its exits
unfoldable pub head_lines : (number cycle : ℕ) → Working → List (List ℕ)
head_lines number cycle w = (record_words number cycle w.arrival w.rounds ∷ []) ++ pair_lines w.pairs.rows ++ exit_lines w

unfoldable pub sheet_lines : (number cycle : ℕ) → Working → (run : List ℕ) → List (List ℕ)
sheet_lines number cycle w run = head_lines number cycle w ++ flow_lines (rows_for (length run)) run

-- ---- the pages

-- a record that has worked: the through exit's run is the output's second
unfoldable pub worked_page : (number cycle : ℕ) → Working → (output : List ℕ) → List ℕ
worked_page number cycle w output = page (sheet_lines number cycle w (run_at cycle 1 output))

-- a refused record: the program's line of it
unfoldable pub refused_page : (number k : ℕ) → List ℕ
refused_page number k = page (refused_words number k ∷ [])

-- by what the working answered
unfoldable pub record_page : (number cycle : ℕ) → Result Working Unworked → (output : List ℕ) → List ℕ
record_page number cycle (Ok w) output = worked_page number cycle w output
record_page number cycle (Err u) output = refused_page number (unworked_number u)

-- where the record has worked, the output holds the through run
pub record RunStands (cycle : ℕ) (answer : Result Working Unworked) (output : List ℕ) : Type 0 where
  pub worked : (w : Working) → answer ≡ Ok w → cycle + cycle ≤ length output

-- Where each number of a sheet stands on its page, and that its digits read back as the number.
use Prim.Native.Nat.{ℕ, ◌+◌, ◌/◌, ◌%◌, ◌≤◌, ◌<◌}
use Rattle.std.specs.Prelude.{◌≡◌}
use mathlib.Core.List.{List}
use Rattle.std.proofs.Math.ListN.{length, get_or}
use Rattle.runs.specs.Runs.{run_at}
use Rattle.text.specs.Text.{decimal, column}
use Rattle.text.specs.Digits.{reads}
use Rattle.page.specs.Laid.{line_room}
use Rattle.sheet_page.specs.SheetPage.{pair_width, flow_width, flow_unit, row_steps}

-- the columns of pair flow i, j: on the line of its entry, behind the record's line
abbrev pub pair_column : List ℕ → ℕ → ℕ → List ℕ
pair_column buffer i j = run_at pair_width j (run_at line_room (1 + i) buffer)

-- the columns of step s of the run, counted from 0: on its row, behind the eight lines above
abbrev pub flow_column : List ℕ → ℕ → List ℕ
flow_column buffer s = run_at flow_width (s % row_steps) (run_at line_room (8 + s / row_steps) buffer)

-- each pair flow right-aligned in its own 11 columns with at most eight digits, each step's thousands in their own 7 with at most five;
-- and the columns read back
pub record Told (pairs : ℕ → ℕ → ℕ) (run buffer : List ℕ) : Type 0 where
  pub pairs_stand : (i j : ℕ) → i < 4 → j < 4 → pair_column buffer i j ≡ column pair_width (pairs i j)
  pub pairs_digits : (i j : ℕ) → i < 4 → j < 4 → length (decimal (pairs i j)) ≤ 8
  pub pairs_read : (i j : ℕ) → i < 4 → j < 4 → reads 0 (pair_column buffer i j) ≡ pairs i j
  pub flows_stand : (s : ℕ) → s < length run → flow_column buffer s ≡ column flow_width (get_or run s 0 / flow_unit)
  pub flows_digits : (s : ℕ) → s < length run → length (decimal (get_or run s 0 / flow_unit)) ≤ 5
  pub flows_read : (s : ℕ) → s < length run → reads 0 (flow_column buffer s) ≡ get_or run s 0 / flow_unit

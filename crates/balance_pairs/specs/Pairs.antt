-- The pair flows of each entry: item 5 of "Metering and shares".
use Rattle.std.specs.Prelude.{◌≡◌, ℕ, ◌-◌, ◌*◌, ◌/◌, ◌≤◌, min, true, false, cond, List, [], ◌∷◌, Float}
use Rattle.std.proofs.Common.{zero-le, le_refl, arith}
use Rattle.std.proofs.Math.Nat.{min-le_right}
use Rattle.std.specs.Float.{nan, inf, fin}
use Rattle.std.specs.Float.Ieee.{up, down}
use Rattle.lists.specs.Lists.{sum}
use Rattle.movements.specs.PerMovement.{Counts}
use Rattle.balance_flows.specs.Flows.{Flows, FlowTable, times, thousand}

-- the whole part of x, or what is left if that is less; x infinite: what is left; x not above 0: 0
unfoldable pub limited : Float → ℕ → ℕ
limited nan left = 0
limited (inf s) left = cond s 0 left
limited (fin s m e) left = cond s 0 (min (m * up e / down e) left)

unfoldable pub cell_units : Float → ℕ → ℕ
cell_units cell left = limited (times cell thousand) left

-- exits left, right, access in turn; through takes what is left
abbrev pub pair_row : Flows → ℕ → List ℕ
pair_row cells all =
    let l = cell_units cells.left all in
    let r = cell_units cells.right (all - l) in
    let a = cell_units cells.access (all - l - r) in
    l ∷ (all - l - r - a) ∷ r ∷ a ∷ []

unfoldable pub pair_rows : FlowTable → Counts → List (List ℕ)
pair_rows cells o =
    pair_row cells.left o.left
    ∷ pair_row cells.through o.through
    ∷ pair_row cells.right o.right
    ∷ pair_row cells.access o.access
    ∷ []

abbrev pub no_pairs : List (List ℕ)
no_pairs = let row : List ℕ = 0 ∷ 0 ∷ 0 ∷ 0 ∷ [] in row ∷ row ∷ row ∷ row ∷ []

limited_le : (x : Float) (left : ℕ) → limited x left ≤ left
unfolding limited
limited_le nan left = zero-le
limited_le (inf true) left = zero-le
limited_le (inf false) left = le_refl left
limited_le (fin true m e) left = zero-le
limited_le (fin false m e) left = min-le_right (m * up e / down e) left

pub cell_units_le : (x : Float) (left : ℕ) → cell_units x left ≤ left
unfolding cell_units
cell_units_le x left = limited_le (times x thousand) left

pub row_adds_lem : (c : Flows) (all : ℕ) → sum (pair_row c all) ≡ all
unfolding sum
row_adds_lem c all =
    let l = cell_units c.left all in
    let r = cell_units c.right (all - l) in
    omega (arith, cell_units_le c.left all, cell_units_le c.right (all - l), cell_units_le c.access (all - l - r))

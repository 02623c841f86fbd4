-- What stands on the working of an accepted record: the room that its test leaves, what its filling asks, pair flows that fit their entries,
-- and demand 3 of what was worked.
use Rattle.std.specs.Prelude.{ℕ, zero, suc, ◌*◌, ◌≤◌, ◌<◌, true, ◌&&◌, ◌≡◌, refl, List, [], ◌∷◌, leb, length, get_or, Ok}
use Rattle.std.proofs.Common.{arith, leb-true}
use Rattle.refusal.specs.Refusal.{both}
use Rattle.lists.specs.Lists.{sum}
use Rattle.movements.specs.PerMovement.{Counts}
use Rattle.segment.specs.declared.Segment.{Segment}
use Rattle.balance_flows.specs.Flows.{Flows, FlowTable}
use Rattle.metering.specs.Metering.{discharge_volume, access_discharge, discharge_volumes}
use Rattle.balance_pairs.specs.Pairs.{pair_row, pair_rows, row_adds_lem}
use Rattle.balance_decision.specs.declared.Decision.{Decision}
use Rattle.balance_decision.specs.Meaning.{from_cells}
use Rattle.propagation.specs.Propagation.{Profiles}
use Rattle.propagation.specs.Steps.{Room, RowsFit}
use Rattle.working.specs.Working.{fits, decision_for}

-- profiles that pass the test of their lengths have room
pub fits_room : (s : Segment) (p : Profiles) → fits p s ≡ true → Room s.cycle p
fits_room s p e =
    let c = s.cycle in
    let t = both (leb (4 * c) (length p.output) && leb c (length p.first)) (leb c (length p.second)) e in
    let u = both (leb (4 * c) (length p.output)) (leb c (length p.first)) t.0 in
    record { output = leb-true _ _ u.0; first = leb-true _ _ u.1; second = leb-true _ _ t.1 }

-- a record that is decided to work, and profiles with room for it
pub record Decided (s : Segment) (d : Decision) (p : Profiles) : Type 0 where
  pub room : Room s.cycle p
  pub works : decision_for s ≡ Ok d

-- ---- the pair flows of what works fit their entries

-- a number of a row is no more than their sum
number_le : (l : List ℕ) (j : ℕ) → get_or l j 0 ≤ sum l
unfolding sum
number_le [] j = omega arith
number_le (x ∷ l) zero = omega arith
number_le (x ∷ l) (suc j) = omega (arith, number_le l j)

row_le : (cells : Flows) (all j : ℕ) → get_or (pair_row cells all) j 0 ≤ all
row_le cells all j = omega (arith, number_le (pair_row cells all) j, row_adds_lem cells all)

rows_four : (cells : FlowTable) (o : Counts) (i : ℕ) → i < 4 → length (get_or (pair_rows cells o) i []) ≡ 4
unfolding pair_rows
rows_four cells o zero h = refl
rows_four cells o (suc zero) h = refl
rows_four cells o (suc (suc zero)) h = refl
rows_four cells o (suc (suc (suc zero))) h = refl
rows_four cells o (suc (suc (suc (suc i)))) h = absurd (omega arith)

pub rows_fit : (s : Segment) (d : Decision) → decision_for s ≡ Ok d → RowsFit s d.pairs.rows
unfolding decision_for discharge_volumes pair_rows
rows_fit s d e =
    let f = from_cells (discharge_volumes s) s.exits s.seeds d e in
    let c = f.cells in
    rw f.rows
    (record {
      four = rows_four c (discharge_volumes s);
      left = row_le c.left (discharge_volume s.cycle s.left);
      through = row_le c.through (discharge_volume s.cycle s.through);
      right = row_le c.right (discharge_volume s.cycle s.right);
      access = row_le c.access (access_discharge s);
    })

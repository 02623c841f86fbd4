-- What a decision means: one that works has pair flows that use up each entry's discharge, and no more rounds than the limit;
-- one that does not has the number 13, 14 or 15.
-- Assumes nothing.
use Rattle.std.specs.Prelude.{ℕ, ◌≤◌, Bool, true, false, [], ◌∷◌, map, ◌≡◌, refl, Ok, Err}
use Rattle.std.proofs.Common.{arith, sym}
use Rattle.refusal.specs.declared.Refusal.TheVariants.{NoVolume, Unserved}
use Rattle.refusal.specs.Refusal.{need, ok_refused}
use Rattle.movements.specs.PerMovement.{Counts, Seeds}
use Rattle.balance_flows.specs.Flows.{FlowTable}
use Rattle.balance.specs.declared.Settling.{Settling}
use Rattle.balance.specs.declared.Settling.TheVariants as settling
use Rattle.balance.specs.declared.Balance.{Balance}
use Rattle.balance.specs.Settling.{round_limit, balanced}
use Rattle.balance.proofs.Ending.{balanced_rounds}
use Rattle.lists.specs.Lists.{sum}
use Rattle.pair_flows.specs.Pairs.{pair_flows}
use Rattle.balance_pairs.specs.Pairs.{pair_rows}
use Rattle.balance_pairs.proofs.Pairs.{rows_add}
use Rattle.balance_decision.specs.declared.Decision.{Decision}
use Rattle.balance_decision.specs.declared.Unworked.{Unworked}
use Rattle.balance_decision.specs.declared.Unworked.TheVariants.{Refused, Unsettled}
use Rattle.balance_decision.specs.Unworked.{unworked_number, work_on}
use Rattle.balance_decision.specs.Decision.{by_settling, settled_to, decision_of}

module _ (o : Counts) where
  -- pair flows that come from cells
  pub record FromCells (d : Decision) : Type 0 where
    pub cells : FlowTable
    pub rows : d.pairs.rows ≡ pair_rows cells o

  settled_cells : (k : Settling) (n : ℕ) (c : FlowTable) (d : Decision) → by_settling k n c o ≡ Ok d → FromCells d × (d.rounds ≡ n)
  settled_cells (settling.Settled x) n c d e =
      let is : d ≡ record { sum = x; rounds = n; pairs = pair_flows (pair_rows c o) } = cc in
      rw is (record { cells = c; rows = refl }, refl)
  settled_cells (settling.Unsettled x) n c d e = ok_refused (sym e)

  by_tests : (t v : Bool) (b : Balance) (d : Decision) → work_on (need NoVolume t (need Unserved v (Ok b))) (settled_to o) ≡ Ok d →
      FromCells d × (d.rounds ≡ b.rounds)
  unfolding need settled_to
  by_tests false v b d e = ok_refused (sym e)
  by_tests true false b d e = ok_refused (sym e)
  by_tests true true b d e = settled_cells b.settling b.rounds b.cells d e

  -- a decision that works is that of the settling
  of_settling : (exits : Counts) (s : Seeds) (d : Decision) → decision_of o exits s ≡ Ok d → FromCells d × (d.rounds ≡ (balanced o exits s).rounds)
  unfolding decision_of
  of_settling exits s = by_tests _ _ (balanced o exits s)

  pub from_cells : (exits : Counts) (s : Seeds) (d : Decision) → decision_of o exits s ≡ Ok d → FromCells d
  from_cells exits s d e = (of_settling exits s d e).0

  -- so each entry's row adds to O
  pub shared_adds : (exits : Counts) (s : Seeds) (d : Decision) → decision_of o exits s ≡ Ok d →
      map sum d.pairs.rows ≡ o.left ∷ o.through ∷ o.right ∷ o.access ∷ []
  shared_adds exits s d e = let f = from_cells exits s d e in rw f.rows (rows_add f.cells o)

  -- no more rounds than the limit
  pub decision_rounds : (exits : Counts) (s : Seeds) (d : Decision) → decision_of o exits s ≡ Ok d → d.rounds ≤ round_limit
  decision_rounds exits s d e = omega (arith, (of_settling exits s d e).1, balanced_rounds o exits s)

  -- ---- one that does not work

  number_by_settling : (k : Settling) (n : ℕ) (c : FlowTable) (u : Unworked) → by_settling k n c o ≡ Err u → unworked_number u ≡ 15
  number_by_settling (settling.Settled x) n c u e = ok_refused e
  number_by_settling (settling.Unsettled x) n c u e = let is : u ≡ Unsettled x = cc in rw is refl

  number_by_tests : (t v : Bool) (b : Balance) (u : Unworked) → work_on (need NoVolume t (need Unserved v (Ok b))) (settled_to o) ≡ Err u →
      (13 ≤ unworked_number u) × (unworked_number u ≤ 15)
  unfolding need settled_to
  number_by_tests false v b u e = let is : u ≡ Refused NoVolume = cc in rw is (omega arith, omega arith)
  number_by_tests true false b u e = let is : u ≡ Refused Unserved = cc in rw is (omega arith, omega arith)
  number_by_tests true true b u e = let n = number_by_settling b.settling b.rounds b.cells u e in (omega arith, omega arith)

  pub decision_number : (exits : Counts) (s : Seeds) (u : Unworked) → decision_of o exits s ≡ Err u → (13 ≤ unworked_number u) × (unworked_number u ≤ 15)
  unfolding decision_of
  decision_number exits s = number_by_tests _ _ (balanced o exits s)

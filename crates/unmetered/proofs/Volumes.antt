-- The balancing reads 1000·O, in thousandths, as it reads O in whole veh/h: the same floats, refusals, rounds and pair flows.
use Rattle.std.specs.Prelude.{ℕ, ◌≤◌, Bool, true, false, ◌≡◌, refl, ltb, eqb}
use Rattle.std.proofs.Common.{arith}
use borrow.Author.Tests.{ltb-true, ltb-false, lt-ltb, le-ltb, eqb-true, eqb-false, eq-eqb, ne_eqb}
use Rattle.limits.specs.Limits.{entry_limit}
use Rattle.movements.specs.PerMovement.{Counts, Seeds}
use Rattle.movements.specs.Movements.{flow_units}
use Rattle.balance_volumes.specs.Volumes.{discharge_floats, exit_floats}
use Rattle.balance_volumes.proofs.Volumes.{discharge_float_whole}
use Rattle.balance.specs.Settling.{balanced}
use Rattle.balance_refusals.specs.Refusals.{counts_total, no_volume, meets, unserved_entry, unserved_exit, any_unserved_entry, any_unserved_exit}
use Rattle.balance_decision.specs.Decision.{decision_of}
use Rattle.unmetered.specs.Cut.{in_thousandths, cut_balanced, cut_decision}

-- no more than an entry's largest volume, so that each is a float exactly
pub record WithinRange (o : Counts) : Type 0 where
  pub left : o.left ≤ entry_limit
  pub through : o.through ≤ entry_limit
  pub right : o.right ≤ entry_limit
  pub access : o.access ≤ entry_limit

-- there is some of it in thousandths exactly where there is some
some : (n : ℕ) → ltb 0 (flow_units n) ≡ ltb 0 n
some n = go (ltb 0 n) refl
  where
    go : (t : Bool) → ltb 0 n ≡ t → ltb 0 (flow_units n) ≡ t
    go true e = lt-ltb 0 (flow_units n) (omega (arith, ltb-true 0 n e))
    go false e = le-ltb 0 (flow_units n) (omega (arith, ltb-false 0 n e))

none : (n m : ℕ) → m ≡ flow_units n → eqb m 0 ≡ eqb n 0
none n m h = go (eqb n 0) refl
  where
    go : (t : Bool) → eqb n 0 ≡ t → eqb m 0 ≡ t
    go true e = eq-eqb m 0 (omega (arith, eqb-true n 0 e))
    go false e = ne_eqb m 0 (λ z. eqb-false n 0 e (omega arith))

module _ (o exits : Counts) (s : Seeds) where
  thousandths_none : no_volume (in_thousandths o) exits ≡ no_volume o exits
  unfolding no_volume in_thousandths
  thousandths_none = rw (none (counts_total o) (counts_total (in_thousandths o)) (omega arith))

  thousandths_entry : any_unserved_entry (in_thousandths o) exits s ≡ any_unserved_entry o exits s
  unfolding any_unserved_entry unserved_entry in_thousandths
  thousandths_entry = rw (some o.left, some o.through, some o.right, some o.access)

  thousandths_exit : any_unserved_exit (in_thousandths o) exits s ≡ any_unserved_exit o exits s
  unfolding any_unserved_exit unserved_exit meets in_thousandths
  thousandths_exit = rw (some o.left, some o.through, some o.right, some o.access)

thousandths_floats : (o : Counts) → WithinRange o → discharge_floats (in_thousandths o) ≡ exit_floats o
unfolding discharge_floats exit_floats in_thousandths
thousandths_floats o h =
    rw (
      discharge_float_whole o.left (omega (arith, h.left)),
      discharge_float_whole o.through (omega (arith, h.through)),
      discharge_float_whole o.right (omega (arith, h.right)),
      discharge_float_whole o.access (omega (arith, h.access)),
    )

pub cut_decided : (o exits : Counts) (s : Seeds) → WithinRange o → decision_of (in_thousandths o) exits s ≡ cut_decision o exits s
unfolding decision_of cut_decision balanced cut_balanced
cut_decided o exits s h = rw (thousandths_none o exits s, thousandths_entry o exits s, thousandths_exit o exits s, thousandths_floats o h)

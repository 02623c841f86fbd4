-- The decision case by case: what the settling led to, and which of the two tests or the balancing decides.
-- Assumes nothing.
use Rattle.std.specs.Prelude.{◌≡◌, Bool, true, false, ◌||◌, Float, Result, Ok, Err}
use Rattle.refusal.specs.declared.Refusal.TheVariants.{NoVolume, Unserved}
use Rattle.refusal.specs.Refusal.{need}
use Rattle.movements.specs.PerMovement.{Counts, Seeds}
use Rattle.balance.specs.declared.Balance.{Balance}
use Rattle.balance.specs.declared.Settling.TheVariants as settling
use Rattle.balance.specs.Settling.{balanced}
use Rattle.pair_flows.specs.declared.PairFlows.{PairFlows}
use Rattle.pair_flows.specs.Pairs.{pair_flows}
use Rattle.balance_pairs.specs.Pairs.{pair_rows}
use Rattle.balance_refusals.specs.Refusals.{no_volume, any_unserved_entry, any_unserved_exit}
use Rattle.balance_decision.specs.declared.Decision.{Decision}
use Rattle.balance_decision.specs.declared.Unworked.{Unworked}
use Rattle.balance_decision.specs.declared.Unworked.TheVariants.{Refused, Unsettled}
use Rattle.balance_decision.specs.Decision.{settled_to, decision_of}

module _ (o : Counts) (b : Balance) (x : Float) where
  pub settled_is : (g : PairFlows) → b.settling ≡ settling.Settled x → g ≡ pair_flows (pair_rows b.cells o) →
      ◌≡◌ {A = Result Decision Unworked} (Ok (record { sum = x; rounds = b.rounds; pairs = g })) (settled_to o b)
  unfolding settled_to
  settled_is g e q = rw (e, q)

  pub unsettled_is : b.settling ≡ settling.Unsettled x → ◌≡◌ {A = Result Decision Unworked} (Err (Unsettled x)) (settled_to o b)
  unfolding settled_to
  unsettled_is e = rw e

-- what was found of the two refusals
module _ (o exits : Counts) (s : Seeds) {empty entry exit : Bool}
    (volume : empty ≡ no_volume o exits) (of_entry : entry ≡ any_unserved_entry o exits s) (of_exit : exit ≡ any_unserved_exit o exits s) where
  pub at13 : empty ≡ true → ◌≡◌ {A = Result Decision Unworked} (Err (Refused NoVolume)) (decision_of o exits s)
  unfolding decision_of need
  at13 e = rw (← volume, e)

  pub at14 : empty ≡ false → (entry || exit) ≡ true → ◌≡◌ {A = Result Decision Unworked} (Err (Refused Unserved)) (decision_of o exits s)
  unfolding decision_of need
  at14 e u = rw (← volume, ← of_entry, ← of_exit, e, u)

  pub balances : empty ≡ false → (entry || exit) ≡ false → settled_to o (balanced o exits s) ≡ decision_of o exits s
  unfolding decision_of need
  balances e u = rw (← volume, ← of_entry, ← of_exit, e, u)

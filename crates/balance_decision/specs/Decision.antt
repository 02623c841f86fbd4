-- The decision on volumes and seeds: refusals 13, 14, 15 in order, or the pair flows.
use Rattle.std.specs.Prelude.{ℕ, ◌||◌, not, Result, Ok, Err}
use Rattle.refusal.specs.declared.Refusal.TheVariants.{NoVolume, Unserved}
use Rattle.refusal.specs.Refusal.{need}
use Rattle.movements.specs.PerMovement.{Counts, Seeds}
use Rattle.balance_flows.specs.Flows.{FlowTable}
use Rattle.balance.specs.declared.Settling.{Settling}
use Rattle.balance.specs.declared.Settling.TheVariants as settling
use Rattle.balance.specs.declared.Balance.{Balance}
use Rattle.balance.specs.Settling.{balanced}
use Rattle.pair_flows.specs.Pairs.{pair_flows}
use Rattle.balance_pairs.specs.Pairs.{pair_rows}
use Rattle.balance_refusals.specs.Refusals.{no_volume, any_unserved_entry, any_unserved_exit}
use Rattle.balance_decision.specs.declared.Decision.{Decision}
use Rattle.balance_decision.specs.declared.Unworked.{Unworked}
use Rattle.balance_decision.specs.declared.Unworked.TheVariants.{Unsettled}
use Rattle.balance_decision.specs.Unworked.{work_on}

-- settled: its last sum, rounds and pair flows; unsettled: 15 with its last sum
abbrev pub by_settling : Settling → ℕ → FlowTable → Counts → Result Decision Unworked
by_settling (settling.Settled sum) rounds cells o = Ok (record { sum = sum; rounds = rounds; pairs = pair_flows (pair_rows cells o) })
by_settling (settling.Unsettled sum) rounds cells o = Err (Unsettled sum)

unfoldable pub settled_to : Counts → Balance → Result Decision Unworked
settled_to o b = by_settling b.settling b.rounds b.cells o

unfoldable pub decision_of : Counts → Counts → Seeds → Result Decision Unworked
decision_of o exits seeds =
    work_on
    (need NoVolume (not (no_volume o exits))
    (need Unserved (not (any_unserved_entry o exits seeds || any_unserved_exit o exits seeds))
    (Ok (balanced o exits seeds))))
    (settled_to o)

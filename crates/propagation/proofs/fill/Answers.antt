-- After access, and after each entry in turn, the profiles hold what was added so far (`Filling`); after the right entry, the whole.
use Rattle.std.proofs.Common.{ap, arith}
use Rattle.movements.specs.PerMovement.{Counts}
use Rattle.metering.specs.Metering.{discharge_volumes}
use Rattle.propagation.proofs.Filling.{fill_begin, fill_asks, then_entry, then_last}
use Rattle.propagation.proofs.fill.Goals as goal

pub fill_entry-requires : goal.fill_entry-requires
unfolding discharge_volumes
fill_entry-requires c =
    let h = rw (← c.accepted.view_is) at c.requires in
    let o = rw (← c.accepted.view_is) at c.discharge_volumes-o.ensures in
    let r = c.accepted.invariant in
    let begun = fill_begin r h c.begin.ensures c.begin.auto.out in
    fill_asks begun r (omega arith) _ r.left (ap (λ (v : Counts). v.left) o) h.shares.left

pub fill_entry-requires-2 : goal.fill_entry-requires-2
unfolding discharge_volumes
fill_entry-requires-2 c =
    let h = rw (← c.accepted.view_is) at c.requires in
    let o = rw (← c.accepted.view_is) at c.discharge_volumes-o.ensures in
    let r = c.accepted.invariant in
    let begun = fill_begin r h c.begin.ensures c.begin.auto.out in
    let left = then_entry begun r _ r.left (h.shares.four 0 (omega arith)) h.shares.left c.fill_entry.ensures.filled in
    fill_asks left r (omega arith) _ r.through (ap (λ (v : Counts). v.through) o) h.shares.through

pub fill_entry-requires-3 : goal.fill_entry-requires-3
unfolding discharge_volumes
fill_entry-requires-3 c =
    let h = rw (← c.accepted.view_is) at c.requires in
    let o = rw (← c.accepted.view_is) at c.discharge_volumes-o.ensures in
    let r = c.accepted.invariant in
    let begun = fill_begin r h c.begin.ensures c.begin.auto.out in
    let left = then_entry begun r _ r.left (h.shares.four 0 (omega arith)) h.shares.left c.fill_entry.ensures.filled in
    let through = then_entry left r _ r.through (h.shares.four 1 (omega arith)) h.shares.through c.fill_entry-2.ensures.filled in
    fill_asks through r (omega arith) _ r.right (ap (λ (v : Counts). v.right) o) h.shares.right

pub returns-clause-filled : goal.returns-clause-filled
returns-clause-filled c =
    let h = rw (← c.accepted.view_is) at c.requires in
    let r = c.accepted.invariant in
    let begun = fill_begin r h c.begin.ensures c.begin.auto.out in
    let left = then_entry begun r _ r.left (h.shares.four 0 (omega arith)) h.shares.left c.fill_entry.ensures.filled in
    let through = then_entry left r _ r.through (h.shares.four 1 (omega arith)) h.shares.through c.fill_entry-2.ensures.filled in
    rw (← c.accepted.view_is) (then_last r h.shares through c.fill_entry-3.ensures.filled)

-- So many entries have passed as there were turns; the others' discharges are to come.
use Rattle.std.proofs.Common.{◌*◌, length, take}
use Rattle.point_filling.proofs.Passing.{Passed}
use Rattle.point_filling.proofs.fill_point.Given as goal

abbrev pub invariant-loop-discharge : goal.invariant-loop-discharge
invariant-loop-discharge l =
    let it = l.discharge-iterator in
    Passed l.fn.accepted l.p (take (3 * l.fn.accepted.cycle) l.discharges) it.size it.rest.now l.run (length l.yielded)

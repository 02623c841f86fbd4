-- The pass comes to what the records so far and those left come to.
use Rattle.archive_open.proofs.Loops.{Testing}
use Rattle.archive_open.proofs.test_records.Given as goal

abbrev pub invariant-loop-i : goal.invariant-loop-i
invariant-loop-i l = Testing l.e.edition.size l.s l.count l.t l.i l.at l.last l.titled l.rising

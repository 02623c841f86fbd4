-- The number is among the records left where it is among all.
use Rattle.archive_open.proofs.Seeking.{Seeking}
use Rattle.archive_open.proofs.search.seek.Given as goal

abbrev pub invariant-loop-place : goal.invariant-loop-place
invariant-loop-place l = Seeking l.size l.s l.count l.number l.place-iterator

-- The bytes so far are all good, or not.
use Rattle.std.proofs.Common.{◌≡◌, take}
use Rattle.archive_format.specs.Archive.{printables}
use Rattle.archive_open.proofs.printable.Given as goal

abbrev pub invariant-loop-b : goal.invariant-loop-b
invariant-loop-b l = l.good ≡ printables (take l.b-index l.fn.s)

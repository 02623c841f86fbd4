-- j runs are begun, the others as they were.
use Rattle.std.proofs.Common.{replicate}
use Rattle.runs.specs.PerRun.{Worked}
use Rattle.arrivals.proofs.begin.Given as goal

abbrev pub invariant-loop-j : goal.invariant-loop-j
invariant-loop-j l = Worked (λ v run. replicate l.c v) l.c 4 l.fn.row l.initial.out l.out l.j

-- j runs have their pair's arrivals, the others are as they were.
use Rattle.std.proofs.Common.{length}
use Rattle.runs.specs.PerRun.{Worked}
use Rattle.signal.specs.Landing.{added}
use Rattle.pair_parts.specs.PairParts.{pair_arrivals}
use Rattle.arrivals.proofs.add_entry.Given as goal

abbrev pub invariant-loop-j : goal.invariant-loop-j
invariant-loop-j l =
    Worked (λ v run. added (length l.arrived) l.t 1 (pair_arrivals v l.w l.arrived) run) (length l.arrived) 4 l.fn.row l.initial.out l.out l.j

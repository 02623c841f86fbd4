-- The parts of the arrivals gone stand in their places; the share has those of the rest.
use Rattle.arrivals.proofs.Landing.{Laying}
use Rattle.arrivals.proofs.add_parts.Given as goal

abbrev pub invariant-loop-i : goal.invariant-loop-i
invariant-loop-i g l =
    let s = g.S.Share in
    s.fair l.share × Laying (s.parts l.initial.share) (s.parts l.share) l.arrived l.initial.run l.run l.i

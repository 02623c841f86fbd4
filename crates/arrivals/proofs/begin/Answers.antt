use Rattle.std.proofs.Common.{rules}
use Rattle.runs.specs.PerRun.{worked_turn, worked_done, part_length}
use Rattle.arrivals.specs.Arrivals.{begun}
use Rattle.arrivals.proofs.begin.Goals as goal

pub loop-j-preserved : goal.loop-j-preserved
loop-j-preserved c =
    let inv = c.loop-j.invariant in
    let more = c.loop-j-test.true in
    let room = c.requires in
    let f = c.fill in
    worked_turn inv more room (search rules) 0 f.new.self f.ensures.len (rw (part_length inv more room) at (f.ensures.after (λ y e. e)))

pub returns : goal.returns
unfolding begun
returns c = worked_done c.loop-j.invariant c.loop-j-test.false (search rules)

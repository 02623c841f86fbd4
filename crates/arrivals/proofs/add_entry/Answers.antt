use Rattle.std.proofs.Common.{rules}
use Rattle.runs.specs.PerRun.{worked_turn, worked_done, part_length}
use Rattle.arrivals.specs.Arrivals.{entry_added}
use Rattle.arrivals.proofs.add_entry.Goals as goal

pub loop-j-preserved : goal.loop-j-preserved
loop-j-preserved c =
    let inv = c.loop-j.invariant in
    let more = c.loop-j-test.true in
    let room = c.requires.room in
    let p = c.add_pair in
    worked_turn inv more room (search rules) 0 p.new.run p.auto.run (rw (part_length inv more room) at p.ensures)

pub returns : goal.returns
unfolding entry_added
returns c = worked_done c.loop-j.invariant c.loop-j-test.false (search rules)

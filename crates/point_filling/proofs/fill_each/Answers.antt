-- A point's run and count are worked where its place stands in the profile; at the end all are.
use Rattle.std.proofs.Common.{rules}
use Rattle.std.proofs.Math.Nat.{sub-zero}
use Rattle.points.specs.Points.{given}
use Rattle.point_filling.proofs.Filling.{filling_fits, filling_turn, filling_runs, filling_counts, given_room}
use Rattle.point_filling.proofs.fill_each.Goals as goal

pub fill_point-requires : goal.fill_point-requires
unfolding given
fill_point-requires c =
    rw c.accepted.view_is
    (filling_fits c.loop-i.invariant c.loop-i-test.true _ (given_room c.requires.fill (search rules)) (rw c.accepted.view_is at c.accepted.invariant)
    c.requires.discharged (rw sub-zero c.requires.fill.fit))

pub loop-i-preserved : goal.loop-i-preserved
loop-i-preserved c =
    let f = c.fill_point in
    rw c.accepted.view_is
    (filling_turn c.loop-i.invariant c.loop-i-test.true _ (given_room c.requires.fill (search rules)) f.new.run (rw c.accepted.view_is at f.auto.run)
    f.ensures.run_after f.ensures.value)

pub returns : goal.returns
unfolding given
returns c =
    let inv = c.loop-i.invariant in
    rw (← (sub-zero c.args.points.count)) (record {
      out_after = filling_runs inv c.loop-i-test.false;
      value = filling_counts inv c.loop-i-test.false;
    })

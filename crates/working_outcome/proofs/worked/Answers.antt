-- Each exit's run is lent from the filled output; its figures are those of the definition.
use Rattle.std.proofs.Common.{arith}
use Rattle.working_outcome.proofs.Figures.{output_long, worked_is}
use Rattle.working_outcome.proofs.worked.Goals as goal

pub split_at-requires : goal.split_at-requires
split_at-requires c = omega (arith, output_long (rw (← c.accepted.view_is) at c.requires))

pub split_at-requires-2 : goal.split_at-requires-2
split_at-requires-2 c = omega (arith, output_long (rw (← c.accepted.view_is) at c.requires), c.split_at.ensures.back_len)

pub split_at-requires-3 : goal.split_at-requires-3
split_at-requires-3 c =
    omega (arith, output_long (rw (← c.accepted.view_is) at c.requires), c.split_at.ensures.back_len, c.split_at-2.ensures.back_len)

pub split_at-requires-4 : goal.split_at-requires-4
split_at-requires-4 c =
    omega (
      arith,
      output_long (rw (← c.accepted.view_is) at c.requires),
      c.split_at.ensures.back_len,
      c.split_at-2.ensures.back_len,
      c.split_at-3.ensures.back_len,
    )

pub returns : goal.returns
returns c =
    let a = c.split_at.ensures in
    let b = c.split_at-2.ensures in
    let d = c.split_at-3.ensures in
    rw (← c.accepted.view_is)
    (worked_is (rw (← c.accepted.view_is) at c.requires) a.back b.back d.back a.front b.front d.front c.split_at-4.ensures.front
    c.arrival_time.ensures c.figures.ensures c.figures-2.ensures c.figures-3.ensures c.total.ensures c.blocked_steps.ensures)

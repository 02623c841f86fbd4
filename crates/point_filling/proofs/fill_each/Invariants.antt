-- The loop keeps Filling: i points have their run and their count, the others are to come.
use Rattle.point_filling.proofs.Filling.{Filling}
use Rattle.point_filling.proofs.fill_each.Given as goal

abbrev pub invariant-loop-i : goal.invariant-loop-i
invariant-loop-i l = Filling l.accepted l.p-items l.initial.out l.out l.blocked l.i

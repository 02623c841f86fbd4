-- With no points nothing is written or counted; else the discharges stand in front of their array, then each point is filled.
use Rattle.std.proofs.Common.{arith, sym, ◌∙◌}
use Rattle.std.proofs.lemmas.List.{length-take-le}
use Rattle.points.proofs.Laws.{none_given}
use Rattle.point_flows.proofs.Laws.{no_runs, no_counts}
use Rattle.point_filling.proofs.Discharging.{discharging}
use Rattle.point_filling.proofs.fill.Goals as goal

pub returns-then-points-eq0 : goal.returns-then-points-eq0
returns-then-points-eq0 c =
    rw (none_given c.args.points c.if-points-eq0.true) (record { out_after = sym (no_runs _ _); value = sym (no_counts _) })

pub fill_each-requires : goal.fill_each-requires
fill_each-requires c =
    let long = c.fill_profiles.auto.profile ∙ length-take-le _ _ (omega (arith, c.accepted.invariant.cycle)) in
    rw (← c.accepted.view_is)
    (discharging _ _ long (rw (← c.accepted.view_is) at c.requires) _ (rw (← c.accepted.view_is) at c.fill_profiles.ensures.profile_after))

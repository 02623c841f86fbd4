-- The test of each of them in turn.
use Rattle.std.proofs.Common.{rules, take, ◌-◌}
use Rattle.std.proofs.Math.Nat.{sub-zero}
use Rattle.std.proofs.lemmas.Iterator.Search.{all_from_yields_List}
use Rattle.std.proofs.lemmas.Iterator.{YieldsList-from_slice}
use Rattle.points.specs.Points.{given, point_fits}
use Rattle.points.proofs.Fitting.{all_fit_list}
use Rattle.points.proofs.all_fit.Goals as goal

pub returns : goal.returns
unfolding given
returns c =
    let ps = c.args.points in
    rw (all_fit_list, ← (sub-zero ps.count))
    (all_from_yields_List (point_fits c.args.farthest) _ _ _ c.all.ensures.ran (YieldsList-from_slice (take (ps.count - 0) ps.at) cc)
    (λ x b q k. search rules))

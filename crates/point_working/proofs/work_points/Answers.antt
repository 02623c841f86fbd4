-- A record refused, or accepted and worked with its points: either way the call's answer, its profiles, demand 3 and the points' accuracy.
use Rattle.std.proofs.Common.{rules, sym, ◌∙◌}
use Rattle.std.proofs.lemmas.Result.{err_from_is_err_and}
use Rattle.point_working.proofs.Deciding.{record_passed, record_worked, record_refused}
use Rattle.point_working.proofs.work_points.Goals as goal

pub returns-in_err-accepted-clause-works : goal.returns-in_err-accepted-clause-works
returns-in_err-accepted-clause-works c =
    let p = err_from_is_err_and c.from_residual.result c.from_residual.ensures.1 in
    rw (p.1, p.2) (record_refused _ _ _ _ _ (sym c.accept.ensures ∙ c.in_err-accepted.was))

pub work_accepted-requires : goal.work_accepted-requires
work_accepted-requires c = record_passed _ _ _ _ _ (sym c.accept.ensures ∙ c.in_ok-accepted.was)

pub returns-clause-works : goal.returns-clause-works
returns-clause-works c = record_worked _ _ _ _ (search rules) _ (sym c.accept.ensures ∙ c.in_ok-accepted.was) _ _ _ c.work_accepted.ensures.worked

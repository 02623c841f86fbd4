-- The iterator's sum of the steps that the test finds blocked is the specs' number of them.
use Rattle.std.proofs.Common.{cond, ◌≡◌, refl, sym, ◌∙◌, rules}
use Rattle.std.proofs.lemmas.List.Recursion.{is_sum_by}
use Rattle.std.specs.List as list
use Rattle.exit_figures.specs.ExitFigures.{blocked, blocked_steps}
use Rattle.exit_figures.proofs.Run.blocked_steps.Goals as goal

pub returns : goal.returns
unfolding blocked_steps
returns c =
    let h = c.args.headway in
    let added : c.sum.result ≡ list.sum_by (λ flow. cond (blocked flow h) 1 0) c.args.self.steps.now = search rules in
    added ∙ sym (is_sum_by (blocked_steps h) (λ flow. cond (blocked flow h) 1 0) refl (λ flow run. refl) c.args.self.steps.now)

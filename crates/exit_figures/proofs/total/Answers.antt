-- The iterator's sum is the specs' sum, of numbers of 32 bits.
use Rattle.std.proofs.Common.{arith, ◌-◌, ◌^◌, ◌≡◌, refl, sym, ◌∙◌, rules}
use Rattle.std.proofs.lemmas.List.Recursion.{is_sum_by}
use Rattle.std.specs.List as list
use Rattle.lists.specs.Lists.{sum, sum_le}
use Rattle.exit_figures.proofs.total.Goals as goal

pub returns : goal.returns
unfolding sum
returns c =
    let steps = c.args.steps.now in
    let added : c.sum.result ≡ list.sum steps = search rules in
    let is = added ∙ sym (is_sum_by sum (λ flow. flow) refl (λ flow run. refl) steps) in
    record { sum = is; small = omega (arith, is, sum_le (2 ^ 32 - 1) steps (λ i. omega (arith, c.type_inv.steps i)), c.requires) }

-- The numbers with their places are those of the run, each compared.
use Rattle.std.proofs.Common.{rules, tests, ◌≡◌, ◌+◌, ◌*◌, arith, eqb, not, ◌∙◌}
use Rattle.std.proofs.lemmas.Iterator.{YieldsList-from_slice}
use Rattle.std.proofs.lemmas.Iterator.Consumers.{YieldsList-from_enumerate}
use Rattle.std.proofs.lemmas.Iterator.Search.{any_from_yields_List}
use Rattle.octets.specs.Octets.{word4}
use Rattle.vectors.proofs.Laws.{compared}
use Rattle.vectors.proofs.numbers_differ.Goals as goal

pub returns : goal.returns
returns c =
    let l = c.args.expected.now in
    let at = c.args.at in
    let start : at + 4 * 0 ≡ at = omega arith in
    any_from_yields_List (λ p. not (eqb (word4 l (at + 4 * p.0)) p.1)) _ _ _ c.any.ensures.ran
    (YieldsList-from_enumerate (YieldsList-from_slice c.args.run.now cc) (cc)) (λ x b q k. search (rules, tests))
    ∙ compared l at 0 c.args.run.now ∙ rw start

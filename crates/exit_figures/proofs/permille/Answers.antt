-- By the test: 0 of nothing, else the quotient, which is at most 1000.
use Rattle.std.proofs.Common.{eq-eqb, ne_eqb}
use Rattle.exit_figures.specs.ExitFigures.{permille_of}
use Rattle.exit_figures.proofs.permille.Goals as goal

pub returns-then-whole-eq0 : goal.returns-then-whole-eq0
unfolding permille_of
returns-then-whole-eq0 c = rw (eq-eqb _ 0 c.if-whole-eq0.true)

pub returns : goal.returns
unfolding permille_of
returns c = rw (ne_eqb _ 0 c.if-whole-eq0.false)

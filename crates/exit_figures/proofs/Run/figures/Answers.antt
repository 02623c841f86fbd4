-- The part on green is no more than the total, and small.
use Rattle.std.proofs.Common.{arith}
use Rattle.exit_figures.specs.ExitFigures.{figures_of}
use Rattle.exit_figures.specs.Laws.{green_flow_le}
use Rattle.exit_figures.proofs.Run.figures.Goals as goal

pub permille-requires : goal.permille-requires
permille-requires c =
    let part = green_flow_le c.args.green c.args.self.steps.now c.requires in
    (omega (arith, part, c.total-all.ensures.sum), omega (arith, part, c.total-all.ensures.sum, c.total-all.ensures.small))

pub returns : goal.returns
unfolding figures_of
returns c = rw (c.permille.ensures, c.green_flow-part.ensures, c.total-all.ensures.sum)

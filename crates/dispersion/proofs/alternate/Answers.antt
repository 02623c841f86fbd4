use Rattle.std.proofs.Common.{◌∙◌}
use Rattle.dispersion.proofs.Cycles.{two_left}
use Rattle.dispersion.proofs.alternate.Goals as goal

pub returns : goal.returns
returns c = c.work_cycles.ensures ∙ two_left _ _ _ _ _

use Rattle.dispersion.proofs.Cycles.{alone_done}
use Rattle.dispersion.proofs.disperse_last.Goals as goal

pub returns : goal.returns
returns c = alone_done _ _ _ _ _ c.requires.cycles_nonzero c.work_cycles.ensures

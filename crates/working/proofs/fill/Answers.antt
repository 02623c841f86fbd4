-- The decided pair flows fit their entries, so the profiles are filled with them; the figures are read from the output.
use Rattle.working.proofs.Deciding.{fill_asks, filled}
use Rattle.working.proofs.fill.Goals as goal

pub fill-requires : goal.fill-requires
fill-requires c = fill_asks c.requires c.into.ensures

pub figures-requires : goal.figures-requires
figures-requires c = filled c.requires c.into.ensures _ c.fill.ensures.filled

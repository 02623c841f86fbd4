-- Dispersed into the front of an array of the longest cycle, then landed whole.
use Rattle.point_filling.proofs.Passing.{pass_lands}
use Rattle.point_filling.proofs.pass.Goals as goal

pub add_whole-requires : goal.add_whole-requires
add_whole-requires c = pass_lands _ _ _ c.disperse_last.ensures _ c.arrival_time.ensures c.requires

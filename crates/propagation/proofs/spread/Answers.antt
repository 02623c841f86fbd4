-- Dispersed, its last cycle handed back, then landed: the three profiles are those of the step.
use Rattle.propagation.proofs.Spreading.{spread_adds, spread_done}
use Rattle.propagation.proofs.spread.Goals as goal

pub add_entry-requires : goal.add_entry-requires
add_entry-requires c = spread_adds _ _ _ _ c.alternate.ensures c.requires c.last_cycle-part.ensures c.arrival_time.ensures

pub returns : goal.returns
returns c =
    spread_done _ _ _ _ c.alternate.ensures _ _ _ c.last_cycle-part.ensures c.arrival_time.ensures c.add_entry.ensures

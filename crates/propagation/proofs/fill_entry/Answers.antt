-- The entry's profile stands in front of the array; dispersed and landed, it is the step of the entry.
use Rattle.propagation.proofs.Spreading.{front, entry_asks, entry_done}
use Rattle.propagation.proofs.fill_entry.Goals as goal

pub spread-requires : goal.spread-requires
spread-requires c =
    entry_asks c.requires c.requires.volume (front _ _ _ c.fill_profile.ensures _)

pub returns-clause-filled : goal.returns-clause-filled
returns-clause-filled c =
    entry_done _ _ _ _ _ c.requires.volume (front _ _ _ c.fill_profile.ensures _) c.spread.ensures

-- What the discharge volumes decide is the record's decision.
use Rattle.working.proofs.Deciding.{decided_is}
use Rattle.working.proofs.decide.Goals as goal

pub returns : goal.returns
returns c = rw (← c.accepted.view_is) (decided_is _ (rw (← c.accepted.view_is) at c.discharge_volumes.ensures) c.decide.ensures)

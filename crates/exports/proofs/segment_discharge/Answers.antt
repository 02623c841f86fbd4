-- The discharge call's contract, in numbers.
use Rattle.exports.proofs.Laws.{segment_discharges}
use Rattle.exports.proofs.segment_discharge.Goals as goal

pub returns : goal.returns
returns c = segment_discharges _ _ _ _ _ c.discharge.ensures c.into.ensures

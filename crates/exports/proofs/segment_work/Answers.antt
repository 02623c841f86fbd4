-- The working's contract, in numbers.
use Rattle.std.proofs.Common.{rules}
use Rattle.exports.specs.Laws.{segment_works}
use Rattle.exports.proofs.Laws.{same_back}
use Rattle.exports.proofs.segment_work.Goals as goal

pub returns : goal.returns
returns c =
    let back = same_back c.work.ensures.same in
    let told = segment_works _ _ _ _ _ c.work.ensures.works c.into.ensures in
    search rules

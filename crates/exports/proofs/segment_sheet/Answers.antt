-- The sheet's contract, in numbers.
use Rattle.std.proofs.Common.{rules}
use Rattle.exports.specs.Laws.{segment_sheets}
use Rattle.exports.proofs.Laws.{same_back}
use Rattle.exports.proofs.segment_sheet.Goals as goal

pub returns : goal.returns
returns c =
    let back = same_back c.sheet.ensures.same in
    let told = segment_sheets _ _ _ _ _ _ _ c.sheet.ensures.sheets c.into.ensures in
    search rules

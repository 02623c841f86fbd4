-- A buffer without room is refused before anything is made; one with room holds the whole text.
use Rattle.std.proofs.Common.{leb-true}
use Rattle.std.proofs.lemmas.Result.{err_from_is_err_and}
use Rattle.refusal.specs.Refusal.{holds}
use Rattle.report.proofs.Whole.{text_refused, text_whole}
use Rattle.report.proofs.text_to.Goals as goal

pub returns-in_err-need : goal.returns-in_err-need
returns-in_err-need c =
    let p = err_from_is_err_and c.from_residual.result c.from_residual.ensures.1 in
    rw (p.1, p.2) (text_refused c.args.form _ _ c.room.ensures _ c.need.ensures c.in_err-need.was)

pub returns : goal.returns
returns c =
    text_whole c.args.form _ _ (λ i. (c.type_inv.archive i).fits) c.room.ensures
    (leb-true _ _ (holds _ _ _ _ c.need.ensures c.in_ok-need.was)) c.whole_text.ensures

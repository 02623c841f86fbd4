-- A record refused, or accepted and its sheet made: either way the call's answer, its profiles, its page and demand 3.
use Rattle.std.proofs.Common.{sym, ◌∙◌}
use Rattle.std.proofs.lemmas.Result.{err_from_is_err_and}
use Rattle.sheet.proofs.Deciding.{record_passed, number_within, record_accepted, record_refused}
use Rattle.sheet.proofs.sheet.Goals as goal

pub returns-in_err-accepted-clause-sheets : goal.returns-in_err-accepted-clause-sheets
returns-in_err-accepted-clause-sheets c =
    let p = err_from_is_err_and c.from_residual.result c.from_residual.ensures.1 in
    rw (p.1, p.2) (record_refused _ _ _ _ (sym c.accept.ensures ∙ c.in_err-accepted.was))

pub word4_at-number-requires : goal.word4_at-number-requires
word4_at-number-requires c = number_within _ _ _ (sym c.accept.ensures ∙ c.in_ok-accepted.was)

pub sheet_accepted-requires : goal.sheet_accepted-requires
sheet_accepted-requires c = record_passed _ _ _ (sym c.accept.ensures ∙ c.in_ok-accepted.was)

pub returns-clause-sheets : goal.returns-clause-sheets
returns-clause-sheets c =
    record_accepted _ _ _ (λ i. (c.type_inv.bytes i).fits) _ (sym c.accept.ensures ∙ c.in_ok-accepted.was)
    c.word4_at-number.ensures _ _ _ c.sheet_accepted.ensures.called

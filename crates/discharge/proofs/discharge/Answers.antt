-- Decided, then written: either way the answer and the profile are the definition's.
use Rattle.std.proofs.Common.{◌∙◌, sym}
use Rattle.discharge.proofs.Laws.{asks, writes}
use Rattle.discharge.proofs.discharge.Goals as goal

pub write-requires : goal.write-requires
write-requires c = asks _ _ _ (sym c.accept.ensures ∙ c.in_ok-accepted.was)

pub returns : goal.returns
returns c = writes _ _ _ (sym c.accept.ensures ∙ c.in_ok-accepted.was) _ _ c.write.ensures.value c.write.ensures.profile_after

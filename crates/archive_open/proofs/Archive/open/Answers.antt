-- Every test of the end held, and the pass came to the last number.
use Rattle.std.proofs.Common.{rules}
use Rattle.refusal.specs.Refusal.{need}
use Rattle.archive_format.specs.Archive.{decode}
use Rattle.archive_open.proofs.Loops.{passed}
use Rattle.archive_open.proofs.Archive.open.Goals as goal

pub invariant_of-result-clause-read : goal.invariant_of-result-clause-read
unfolding decode need
invariant_of-result-clause-read c = search (rules, (passed _ _ _ _ _ c.in_ok-last.ensures).body)

pub invariant_of-result-clause-lasts : goal.invariant_of-result-clause-lasts
invariant_of-result-clause-lasts c = (passed _ _ _ _ _ c.in_ok-last.ensures).lasts

-- It has the number, or the next ones may.
use Rattle.archive_open.proofs.Seeking.{seek_fits, seek_found, seek_on, seek_none}
use Rattle.archive_open.proofs.search.seek.Goals as goal

pub word4_at-requires : goal.word4_at-requires
word4_at-requires c = seek_fits c.loop-place.invariant c.in-Some.ensures.steps c.requires.0.0

pub returns-then-word4_at-number : goal.returns-then-word4_at-number
returns-then-word4_at-number c =
    seek_found c.loop-place.invariant c.in-Some.ensures.steps c.word4_at.ensures c.if-word4_at-number.true

pub loop-place-preserved : goal.loop-place-preserved
loop-place-preserved c =
    seek_on c.loop-place.invariant c.in-Some.ensures.steps c.word4_at.ensures c.if-word4_at-number.false

pub returns : goal.returns
returns c = seek_none c.loop-place.invariant c.in-None.ensures.steps

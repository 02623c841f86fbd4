use Rattle.std.proofs.Common.{arith}
use Rattle.arrivals.proofs.Landing.{laying_start, place_clear, laying_turn, all_laid, to_come}
use Rattle.arrivals.proofs.add_parts.Goals as goal

pub loop-i-init : goal.loop-i-init
loop-i-init g c = (c.requires.fair, laying_start _ _ _)

pub part-requires : goal.part-requires
part-requires g c = c.loop-i.invariant.0

pub overflow_add-run : goal.overflow_add-run
overflow_add-run g c =
    let i = c.loop-i.i in
    omega (arith, place_clear c.loop-i.invariant.1, c.part.ensures.no_more, c.requires.fits.small i, c.requires.fits.arrivals i)

pub loop-i-preserved : goal.loop-i-preserved
loop-i-preserved g c = (c.part.ensures.fair, laying_turn c.loop-i.invariant.1 c.loop-i-test.true c.requires.fits.long c.part.ensures.part)

pub returns-clause-fair : goal.returns-clause-fair
returns-clause-fair g c = c.loop-i.invariant.0

pub returns-clause-added : goal.returns-clause-added
returns-clause-added g c = all_laid c.loop-i.invariant.1 c.loop-i-test.false (g.met.S.Share.long _)

pub returns-clause-to_come : goal.returns-clause-to_come
returns-clause-to_come g c = to_come c.loop-i.invariant.1 c.loop-i-test.false (g.met.S.Share.long _)

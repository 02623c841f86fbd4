-- What is said of a case stands behind what was said before, and the closing line behind all of it.
use Rattle.std.proofs.Common.{arith, refl}
use Rattle.vectors.proofs.Closing.{adds_more, told}
use Rattle.vectors.proofs.run.Goals.{then-is_none_or+in_ok-count, else-is_none_or}
use Rattle.vectors.proofs.run.Goals as goal

pub loop-i-preserved : goal.loop-i-preserved
loop-i-preserved g c =
    elim c.if-is_none_or.branch [
      | then-is_none_or+in_ok-count w ↦
          (rw w.output-is (adds_more _ _ _ c.loop-i.invariant.0 w.in_ok-count.ensures.said), omega (arith, w.count-is, w.in_ok-count.ensures.counted))
      | else-is_none_or w ↦ (rw w.output-is c.loop-i.invariant.0, omega (arith, w.count-is))
    ]

pub returns : goal.returns
returns g c = told _ _ _ c.loop-i.invariant.0 refl (omega (arith, c.loop-i.auto.i-end)) (omega arith) c.in_ok-finish.ensures.held c.in_ok-finish.ensures.written

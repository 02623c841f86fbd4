-- The first of the blank lines left is put.
use Rattle.std.proofs.Common.{rules, []}
use Rattle.buffer.proofs.Pieces.{appending_turn, appending_done}
use Rattle.page.proofs.Blank.{blank_first, blank_none, no_words}
use Rattle.page.proofs.blank_lines.Goals as goal

pub loop-preserved : goal.loop-preserved
loop-preserved c = appending_turn c.loop.invariant (c.line.ensures [] (λ worded said. no_words (search rules))) _ (blank_first _ _ c.loop-test.true)

pub returns : goal.returns
returns c = appending_done c.loop.invariant (blank_none _ _ c.loop-test.false)

-- The next entry's line is the first of those left.
use Rattle.buffer.proofs.Pieces.{appending_turn, appending_done}
use Rattle.sheet_page.proofs.Lines.{pairs_next, pairs_none}
use Rattle.sheet_page.proofs.pair_lines.Goals as goal

pub loop-row-preserved : goal.loop-row-preserved
loop-row-preserved c = appending_turn c.loop-row.invariant c.columns_line.ensures _ (pairs_next c.args.rows _ c.loop-row-test.true)

pub returns : goal.returns
returns c = appending_done c.loop-row.invariant (pairs_none c.args.rows _ c.loop-row-test.false)

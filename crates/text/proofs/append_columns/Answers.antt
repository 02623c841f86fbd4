-- The column of the next number is the front of those left.
use Rattle.buffer.proofs.Pieces.{appending_start, appending_turn, appending_done}
use Rattle.text.proofs.Columns.{columns_from, columns_none}
use Rattle.text.proofs.append_columns.Goals as goal

pub loop-n-init : goal.loop-n-init
loop-n-init c = appending_start _ _

pub loop-n-preserved : goal.loop-n-preserved
loop-n-preserved c = appending_turn c.loop-n.invariant (rw c.from.ensures at c.append_column.ensures) _ (columns_from _ _ _ _ c.loop-n-test.true)

pub returns : goal.returns
returns c = appending_done c.loop-n.invariant (columns_none _ _ _ _ c.loop-n-test.false)

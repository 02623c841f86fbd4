-- The columns so far and those of the numbers left are the whole.
use Rattle.std.proofs.Common.{drop}
use Rattle.buffer.specs.Pieces.{Appending}
use Rattle.text.specs.Text.{columns}
use Rattle.text.proofs.append_columns.Given as goal

abbrev pub invariant-loop-n : goal.invariant-loop-n
invariant-loop-n l = Appending l.fn.text (columns l.width l.unit l.numbers) l.text (columns l.width l.unit (drop l.n-index l.numbers))

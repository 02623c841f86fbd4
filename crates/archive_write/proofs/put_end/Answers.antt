-- The count, the trailer's own place and the mark are put one after another.
use Rattle.buffer.proofs.Pieces.{◌then◌}
use Rattle.archive_write.proofs.put_end.Goals as goal

pub returns : goal.returns
returns c = c.put_word.ensures then c.put_word-2.ensures then c.put.ensures

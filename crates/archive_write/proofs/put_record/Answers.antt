-- The record, its title's length and its title are put one after another.
use Rattle.std.proofs.Common.{append_assoc}
use Rattle.buffer.proofs.Pieces.{◌then◌}
use Rattle.archive_write.proofs.put_record.Goals as goal

pub returns : goal.returns
returns c = simp append_assoc at (c.put.ensures then c.put_byte.ensures then c.put-2.ensures)

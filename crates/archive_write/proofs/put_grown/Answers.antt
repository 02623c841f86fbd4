-- The five parts are put one after another; the new trailer stands behind the old records and the new one.
use Rattle.std.specs.Prelude.{◌+◌, ◌*◌, ◌-◌, ◌≡◌, length}
use Rattle.std.proofs.Common.{arith, append_assoc}
use Rattle.buffer.proofs.Pieces.{◌then◌}
use Rattle.archive_write.specs.Writing.{record_bytes, record_length, grown}
use Rattle.archive_write.proofs.put_grown.Goals as goal

pub returns : goal.returns
unfolding grown
returns c =
    let parts = c.args.parts in
    let added = c.args.added in
    let next : parts.trailer + length (record_bytes added.bytes.now added.title.now) ≡ parts.trailer + length added.bytes.now + 1 + length added.title.now =
    rw (record_length added.bytes.now added.title.now) (omega arith) in
    let cut : parts.trailer + 2 * parts.count - parts.trailer ≡ 2 * parts.count = omega arith in
    let old = rw cut at c.put-2.ensures in
    let whole = c.put.ensures then c.put_record.ensures then old then c.put_word.ensures then c.put_end.ensures in
    rw next (simp append_assoc (simp append_assoc at whole))

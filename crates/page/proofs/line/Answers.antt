-- What the words left, and the blanks and the newline put there.
use Rattle.std.specs.Fn.{FnOnceReturnsAtMut}
use Rattle.std.proofs.Common.{refl}
use Rattle.buffer.proofs.Pieces.{◌then◌}
use Rattle.page.specs.Laws.{line_ended}
use Rattle.page.proofs.line.Goals as goal

pub returns : goal.returns
returns g c x words =
    let worded : FnOnceReturnsAtMut g.F.FnOnce c.args.words c.args.text.now tt c.words.new.arg2 =
    record { shown = _; shows = refl; left = _; met = c.words.ensures; leaves = refl } in
    line_ended (words _ worded) (rw (c.saturating_sub-2.ensures, c.saturating_sub.ensures) at (c.put_run.ensures then c.put_byte.ensures))

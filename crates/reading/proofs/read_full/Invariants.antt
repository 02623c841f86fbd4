-- What was read so far stands in the front of the buffer, and is what the reader gave; the places left fall.
use Rattle.std.proofs.Common.{length, take, ◌-◌, ◌≤◌}
use Rattle.std.specs.Io.KnownBytes.{Consumes}
use Rattle.reading.proofs.read_full.Given as goal

abbrev pub invariant-loop-n : goal.invariant-loop-n
invariant-loop-n g l = (l.n ≤ length l.buffer) × Consumes (g.R.Read.remaining l.initial.from) (g.R.Read.remaining l.from) (take l.n l.buffer)

abbrev pub decreases-loop-n : goal.decreases-loop-n
decreases-loop-n g l = length l.initial.buffer - l.n

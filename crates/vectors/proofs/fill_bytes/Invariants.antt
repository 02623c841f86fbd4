-- The first i places hold the pattern.
use Rattle.std.proofs.Common.{◌≡◌, ℕ, ◌%◌, ◌<◌, length, get_or}
use Rattle.vectors.proofs.fill_bytes.Given as goal

abbrev pub invariant-loop-i : goal.invariant-loop-i
invariant-loop-i l = (length l.buffer ≡ length l.initial.buffer) × ((k : ℕ) → k < l.i → get_or l.buffer k 0 ≡ k % 251)

-- The first i places hold the pattern.
use Rattle.std.proofs.Common.{◌≡◌, ℕ, ◌+◌, ◌<◌, length, get_or}
use Rattle.vectors.proofs.fill_pattern.Given as goal

abbrev pub invariant-loop-i : goal.invariant-loop-i
invariant-loop-i l = (length l.run ≡ length l.initial.run) × ((k : ℕ) → k < l.i → get_or l.run k 0 ≡ l.first + k)

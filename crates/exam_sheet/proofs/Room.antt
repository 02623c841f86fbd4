-- A buffer of so many zeros has so many bytes: over any number, since a list of two million is not to be counted.
use Rattle.std.proofs.Common.{ℕ, ◌≤◌, ◌≡◌, true, sym, leb-true, length, replicate}
use Rattle.std.specs.Prelude.{leb}
use Rattle.std.proofs.lemmas.List.{length-replicate}

pub counted : (n : ℕ) → n ≡ length {A = ℕ} (replicate n 0)
counted n = sym (length-replicate n 0)

-- and room for no more
pub roomy : (need n : ℕ) → leb need n ≡ true → need ≤ length {A = ℕ} (replicate n 0)
roomy need n e = rw (length-replicate {A = ℕ} n 0) (leb-true need n e)

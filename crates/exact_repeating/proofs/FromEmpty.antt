-- Laws of specs/FromEmpty.antt.
use Rattle.std.specs.Prelude.{ℕ, zero, suc, ◌+◌, ◌*◌, ◌^◌, ◌≤◌}
use Rattle.std.proofs.Math.Nat.{pow-zero, pow-succ'}
use Rattle.std.proofs.Common.{mul-le-mul_left, arith, ap}
use Rattle.exact.specs.Exact.{exact_numerator}
use Rattle.exact_repeating.specs.Repeating.{cycle_weight}
use Rattle.exact_repeating.proofs.Laws.{weight_split}

-- ---- Xk is at most b·(D^k - (D-N)^k) where no discharge is above b; so XC is at most b·W

le_from : (n m q x d r b : ℕ) → q ≤ b → x + b * r ≤ b * d → n * q * d + m * x + b * (m * r) ≤ b * ((n + m) * d)
le_from n m q x d r b hq h = omega (arith, mul-le-mul_left (n * d) hq, mul-le-mul_left m h)

numerator_le : (n m b : ℕ) (q : ℕ → ℕ) → ((j : ℕ) → q j ≤ b) → (k : ℕ) → exact_numerator n m q k + b * m ^ k ≤ b * (n + m) ^ k
unfolding exact_numerator
numerator_le n m b q h zero = rw (pow-zero m, pow-zero (n + m)) (omega arith)
numerator_le n m b q h (suc k) =
    rw (pow-succ' m k, pow-succ' (n + m) k)
    (le_from n m (q k) (exact_numerator n m q k) ((n + m) ^ k) (m ^ k) b (h k) (numerator_le n m b q h k))

pub cycle_le : (n m c b : ℕ) (q : ℕ → ℕ) → ((j : ℕ) → q j ≤ b) → exact_numerator n m q c ≤ b * cycle_weight n m c
cycle_le n m c b q h = omega (arith, numerator_le n m b q h c, ap (λ (z : ℕ). b * z) (weight_split n m c))

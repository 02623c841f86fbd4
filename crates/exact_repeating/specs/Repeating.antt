-- The repeating flow: that of a segment (the paper's street) that was never empty. As in the exact working n is N and m is D - N, so that
-- n + m is the divisor D; c is the number of steps of the cycle, and discharge k that of step k + 1.
use Rattle.std.specs.Prelude.{ℕ, suc, ◌+◌, ◌-◌, ◌*◌, ◌^◌, ◌≤◌, ◌<◌, ◌≡◌}
use Rattle.exact.specs.Fraction.{Fraction}
use Rattle.exact.specs.Exact.{exact_numerator}

-- W = D^C - (D-N)^C
unfoldable pub cycle_weight : (n m c : ℕ) → ℕ
cycle_weight n m c = (n + m) ^ c - m ^ c

-- (Xk-as-W + (D-N)^k·XC) / (D^k·W) in discharge step k, with X over one cycle from empty
unfoldable pub repeating_flow : (n m c : ℕ) → (ℕ → ℕ) → ℕ → Fraction
repeating_flow n m c discharge k =
    record {
      num = exact_numerator n m discharge k * cycle_weight n m c + m ^ k * exact_numerator n m discharge c;
      den = (n + m) ^ k * cycle_weight n m c;
    }

-- two fractions are one number
abbrev pub Same : Fraction → Fraction → Type 0
Same f g = f.num * g.den ≡ g.num * f.den

-- the recurrence: D·after = N·q + (D-N)·before, times both denominators
abbrev pub Follows : (n m q : ℕ) → (before after : Fraction) → Type 0
Follows n m q before after =
    (n + m) * (after.num * before.den) ≡ n * q * (before.den * after.den) + m * (before.num * after.den)

-- a flow that satisfies the recurrence in each of the c steps, and ends as it began
pub record Repeats (n m c : ℕ) (discharge : ℕ → ℕ) (flow : ℕ → Fraction) : Type 0 where
  pub fractions : (k : ℕ) → k ≤ c → 0 < (flow k).den
  pub steps : (k : ℕ) → k < c → Follows n m (discharge k) (flow k) (flow (suc k))
  pub around : Same (flow 0) (flow c)

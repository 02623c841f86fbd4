-- Laws that stood in specs/Laws.antt: the repeating flow satisfies the recurrence in every step and around the cycle, and is the only flow that does.
use Prim.Native.Nat.{ℕ, zero, suc, ◌+◌, ◌*◌, ◌^◌, ◌≤◌, ◌<◌}
use Rattle.std.proofs.Math.Nat.{pow-zero, pow-succ', one-le-pow, pow-le-pow_left, pow-lt-pow_left, eq_of_mul-eq-mul_left}
use Rattle.std.proofs.Common.{mul-pos, le-add_left, arith, ◌∙◌}
use Rattle.std.specs.Prelude.{◌≡◌}
use Rattle.std.proofs.Math.Path.{ap}
use Rattle.exact.specs.Fraction.{Fraction}
use Rattle.exact.specs.Exact.{exact_numerator}
use Rattle.exact_repeating.specs.Repeating.{cycle_weight, repeating_flow, Same, Follows, Repeats}

-- W and (D-N)^C are D^C
pub weight_split : (n m c : ℕ) → cycle_weight n m c + m ^ c ≡ (n + m) ^ c
unfolding cycle_weight
weight_split n m c = omega (arith, pow-le-pow_left (le-add_left m n) c)

pub weight_pos : (n m c : ℕ) → 0 < n → 0 < c → 0 < cycle_weight n m c
unfolding cycle_weight
weight_pos n m c hn hc =
    let less : m ^ c < (n + m) ^ c = pow-lt-pow_left {a = m} {b = n + m} {n = c} (omega arith) (λ e. omega arith) in
    omega arith

-- ---- it repeats. p, x, r stand for D^k, Xk, (D-N)^k; w and y for W and XC

follows_from : (n m q p x w y r : ℕ)
    → (n + m) * (((n * q * p + m * x) * w + m * r * y) * (p * w)) ≡ n * q * (p * w * ((n + m) * p * w)) + m * ((x * w + r * y) * ((n + m) * p * w))
follows_from n m q p x w y r = omega arith

repeating_steps : (n m c : ℕ) (q : ℕ → ℕ) (k : ℕ) → Follows n m (q k) (repeating_flow n m c q k) (repeating_flow n m c q (suc k))
unfolding repeating_flow exact_numerator
repeating_steps n m c q k =
    rw (pow-succ' (n + m) k, pow-succ' m k)
    (follows_from n m (q k) ((n + m) ^ k) (exact_numerator n m q k) (cycle_weight n m c) _ (m ^ k))

ends_from : (p r w y : ℕ) → w + r ≡ p → (0 * w + 1 * y) * (p * w) ≡ (y * w + r * y) * (1 * w)
ends_from p r w y e = omega (arith, ap (λ (z : ℕ). y * w * z) e)

repeating_around : (n m c : ℕ) (q : ℕ → ℕ) → Same (repeating_flow n m c q 0) (repeating_flow n m c q c)
unfolding repeating_flow exact_numerator
repeating_around n m c q =
    rw (pow-zero m, pow-zero (n + m))
    (ends_from ((n + m) ^ c) (m ^ c) (cycle_weight n m c) (exact_numerator n m q c) (weight_split n m c))

pub repeating_den : (n m c : ℕ) (q : ℕ → ℕ) (k : ℕ) → 0 < n → 0 < c → 0 < (repeating_flow n m c q k).den
unfolding repeating_flow
repeating_den n m c q k hn hc = mul-pos (one-le-pow k (n + m) (omega arith)) (weight_pos n m c hn hc)

pub repeating_repeats : (n m c : ℕ) (q : ℕ → ℕ) → 0 < n → 0 < c → Repeats n m c q (repeating_flow n m c q)
repeating_repeats n m c q hn hc =
    record {
      fractions = λ k h. repeating_den n m c q k hn hc;
      steps = λ k h. repeating_steps n m c q k;
      around = repeating_around n m c q;
    }

-- ---- no other flow does. From a flow a / b before step 1, that of step k is Xk / D^k and ((D-N) / D)^k of a / b; t is Xk·b + (D-N)^k·a

next_from : (d g m p b t num den num' den' : ℕ) → 0 < den → d * (num' * den) ≡ g * (den * den') + m * (num * den') → p * num * b ≡ t * den
    → d * p * num' * b ≡ (g * p * b + m * t) * den'
next_from d g m p b t num den num' den' pos e h =
    eq_of_mul-eq-mul_left den pos _ _ (omega (arith, ap (λ (z : ℕ). p * b * z) e, ap (λ (z : ℕ). m * den' * z) h))

regroup : (g m p b a x r : ℕ) → g * p * b + m * (x * b + r * a) ≡ (g * p + m * x) * b + m * r * a
regroup g m p b a x r = omega arith

-- around the cycle, a / b is XC / W
starts_from : (p r w y a b num den : ℕ) → 0 < den → w + r ≡ p → a * den ≡ num * b → p * num * b ≡ (y * b + r * a) * den → w * a ≡ y * b
starts_from p r w y a b num den pos split turn h =
    eq_of_mul-eq-mul_left den pos _ _ (omega (arith, ap (λ (z : ℕ). a * den * z) split, ap (λ (z : ℕ). p * z) turn, h))

only_from : (p r w x y a b num den : ℕ) → 0 < b → w * a ≡ y * b → p * num * b ≡ (x * b + r * a) * den → num * (p * w) ≡ (x * w + r * y) * den
only_from p r w x y a b num den pos start h =
    eq_of_mul-eq-mul_left b pos _ _ (omega (arith, ap (λ (z : ℕ). r * den * z) start, ap (λ (z : ℕ). w * z) h))

module _ {n m c : ℕ} {q : ℕ → ℕ} {flow : ℕ → Fraction} (f : Repeats n m c q flow) where
  from_start : (k : ℕ) → k ≤ c
      → (n + m) ^ k * (flow k).num * (flow 0).den ≡ (exact_numerator n m q k * (flow 0).den + m ^ k * (flow 0).num) * (flow k).den
  unfolding exact_numerator
  from_start zero h = rw (pow-zero (n + m), pow-zero m) (omega arith)
  from_start (suc k) h =
      rw (pow-succ' (n + m) k, pow-succ' m k)
      (next_from (n + m) (n * q k) m ((n + m) ^ k) (flow 0).den _ (flow k).num (flow k).den (flow (suc k)).num (flow (suc k)).den
      (f.fractions k (omega arith)) (f.steps k h) (from_start k (omega arith))
      ∙ ap (λ (z : ℕ). z * (flow (suc k)).den) (regroup (n * q k) m ((n + m) ^ k) (flow 0).den (flow 0).num (exact_numerator n m q k) (m ^ k)))

  start_is : cycle_weight n m c * (flow 0).num ≡ exact_numerator n m q c * (flow 0).den
  start_is =
      starts_from ((n + m) ^ c) (m ^ c) (cycle_weight n m c) (exact_numerator n m q c) (flow 0).num (flow 0).den (flow c).num (flow c).den
      (f.fractions c (omega arith)) (weight_split n m c) f.around (from_start c (omega arith))

  pub repeats_only : (k : ℕ) → k ≤ c → Same (flow k) (repeating_flow n m c q k)
  unfolding repeating_flow
  repeats_only k h =
      only_from ((n + m) ^ k) (m ^ k) (cycle_weight n m c) (exact_numerator n m q k) (exact_numerator n m q c) (flow 0).num (flow 0).den
      (flow k).num (flow k).den (f.fractions 0 (omega arith)) start_is (from_start k h)

-- Laws of specs/Run.antt: Laws of a run of steps that divide by n + m and carry the remainder: what it keeps, and how near it stays to the exact flow.
use Rattle.std.specs.Prelude.{ℕ, zero, suc, ◌+◌, ◌*◌, ◌^◌, ◌<◌, ◌≡◌, List, [], length}
use Rattle.std.proofs.Math.Nat.{pow-zero, pow-succ', one-le-pow, lt_of_mul-lt-mul_left}
use Rattle.std.proofs.Common.{mul-le-mul_left, arith, ap}
use Rattle.std.proofs.Math.ListN.{get_or}
use Rattle.exact.specs.Fraction.{Within}
use Rattle.exact.specs.Exact.{exact_numerator, exact_flow}
use Rattle.exact.specs.Run.{Run, Near, stop, step}

module _ {n m : ℕ} where
  pub near_start : 0 < n + m → Near n m 1 0 0 0
  near_start pos = record { excess = 0; over = omega arith; small = omega arith; carried = pos }

  pub near_step : (q : ℕ) {p x level carry a r : ℕ} → (n + m) * a + r ≡ n * q + m * level + carry → r < n + m → Near n m p x level carry
      → Near n m ((n + m) * p) (n * q * p + m * x) a r
  near_step q {p} {x} {level} {carry} {a} {r} e hr h =
      record {
        excess = m * h.excess + n * (p * carry);
        over = omega (arith, ap (λ (z : ℕ). (n + m) * p * z) e, ap (λ (z : ℕ). m * z) h.over);
        small = omega (arith, mul-le-mul_left m h.small, mul-le-mul_left (n * p) h.carried);
        carried = hr;
      }

  pub near_within : {p x level carry : ℕ} → 0 < p → Near n m p x level carry → Within 1 level (record { num = x; den = p })
  near_within {p} {x} {level} {carry} pos h =
      record {
        below = lt_of_mul-lt-mul_left (n + m) (omega (arith, h.over, h.small));
        above = lt_of_mul-lt-mul_left (n + m) (omega (arith, h.over, mul-le-mul_left p h.carried));
      }

  -- the same after k + 1 steps
  near_next : (q : ℕ → ℕ) (k : ℕ) {level carry a r : ℕ} → (n + m) * a + r ≡ n * q k + m * level + carry → r < n + m
      → Near n m ((n + m) ^ k) (exact_numerator n m q k) level carry → Near n m ((n + m) ^ suc k) (exact_numerator n m q (suc k)) a r
  unfolding exact_numerator
  near_next q k e hr h = rw (pow-succ' (n + m) k) (near_step (q k) e hr h)

  flow_within : (q : ℕ → ℕ) (k : ℕ) {level carry : ℕ} → Near n m ((n + m) ^ k) (exact_numerator n m q k) level carry
      → Within 1 level (exact_flow n m q k)
  unfolding exact_flow
  flow_within q k h = near_within (one-le-pow k (n + m) (omega (arith, h.carried))) h

  -- a run that goes on after k steps of the discharge q
  run_on : {level carry last rest : ℕ} {qs arrivals : List ℕ} → Run n m level carry qs arrivals last rest → (q : ℕ → ℕ) (k : ℕ)
      → ((j : ℕ) → q (k + j) ≡ get_or qs j 0) → Near n m ((n + m) ^ k) (exact_numerator n m q k) level carry
      → (i : ℕ) → i < length arrivals → Within 1 (get_or arrivals i 0) (exact_flow n m q (suc (k + i)))
  run_on stop q k same h i hi = absurd (omega arith)
  run_on (step e r t) q k same h zero hi =
      let z : k + 0 ≡ k = omega arith in
      let s : q k ≡ _ = rw z at (same 0) in
      rw z (flow_within q (suc k) (near_next q k (rw s e) r h))
  run_on (step e r t) q k same h (suc i) hi =
      let z : k + 0 ≡ k = omega arith in
      let s : q k ≡ _ = rw z at (same 0) in
      let y : k + suc i ≡ suc k + i = omega arith in
      rw y
      (run_on t q (suc k) (λ j. (let w : suc k + j ≡ k + suc j = omega arith in rw w (same (suc j)))) (near_next q k (rw s e) r h) i (omega arith))

  -- a run with a step has a divisor
  run_pos : {level carry last rest : ℕ} {qs arrivals : List ℕ} → Run n m level carry qs arrivals last rest → (i : ℕ) → i < length arrivals → 0 < n + m
  run_pos stop i h = absurd (omega arith)
  run_pos (step e r t) i h = omega arith

  -- from an empty segment every arrival is within one of the exact flow
  pub run_exact : {last rest : ℕ} {qs arrivals : List ℕ} → Run n m 0 0 qs arrivals last rest → (i : ℕ) → i < length arrivals
      → Within 1 (get_or arrivals i 0) (exact_flow n m (λ j. get_or qs j 0) (suc i))
  unfolding exact_numerator
  run_exact {qs} t i hi =
      let start : (j : ℕ) → 0 + j ≡ j = λ j. (omega arith) in
      rw start at (run_on t (λ j. get_or qs j 0) 0 (λ j. rw (start j)) (rw pow-zero (near_start (run_pos t i hi))) i hi)

-- The exact flow from empty beside the repeating flow: X over one list of discharges after another, how large X can be, and what is left of
-- the distance after a number of steps.
use Rattle.std.specs.Prelude.{ℕ, zero, suc, ◌+◌, ◌*◌, ◌^◌, ◌≤◌, ◌<◌, ◌≡◌, refl, List, ◌++◌, length, get_or}
use Rattle.std.proofs.Math.Nat.{pow-zero, pow-succ'}
use Rattle.std.proofs.Common.{mul-le-mul, mul-le-mul_left, mul-le-mul_right, arith, ap, ◌∙◌, get_or-append-add}
use Rattle.std.proofs.Math.ListN.{get_or-append}
use Rattle.exact.specs.Fraction.{Above}
use Rattle.exact.specs.Exact.{exact_numerator}
use Rattle.exact_repeating.specs.Powers.{pow_add}

-- ---- X over discharges one after the other

numerator_same : (n m : ℕ) (p q : ℕ → ℕ) (k : ℕ) → ((j : ℕ) → j < k → p j ≡ q j) → exact_numerator n m p k ≡ exact_numerator n m q k
unfolding exact_numerator
numerator_same n m p q zero h = refl
numerator_same n m p q (suc k) h = rw (h k (omega arith), numerator_same n m p q k (λ j l. h j (omega arith)))

more_from : (n m q a d x r z : ℕ) → n * q * (a * d) + m * (x * a + r * z) ≡ (n * q * d + m * x) * a + m * r * z
more_from n m q a d x r z = omega arith

-- after a steps, k more
numerator_more : (n m : ℕ) (q : ℕ → ℕ) (a k : ℕ)
    → exact_numerator n m q (a + k) ≡ exact_numerator n m (λ j. q (a + j)) k * (n + m) ^ a + m ^ k * exact_numerator n m q a
unfolding exact_numerator
numerator_more n m q a zero = let e : a + 0 ≡ a = omega arith in rw (e, pow-zero m) (omega arith)
numerator_more n m q a (suc k) =
    let e : a + suc k ≡ suc (a + k) = omega arith in
    rw (e, numerator_more n m q a k, pow_add (n + m) a k, pow-succ' m k)
    (more_from n m (q (a + k)) ((n + m) ^ a) ((n + m) ^ k) (exact_numerator n m (λ j. q (a + j)) k) (m ^ k) (exact_numerator n m q a))

-- X over a list of discharges
abbrev pub over : (n m : ℕ) → List ℕ → ℕ → ℕ
over n m l k = exact_numerator n m (λ j. get_or l j 0) k

pub over_append : (n m : ℕ) (a b : List ℕ) (k : ℕ)
    → over n m (a ++ b) (length a + k) ≡ over n m b k * (n + m) ^ length a + m ^ k * over n m a (length a)
over_append n m a b k =
    numerator_more n m (λ j. get_or (a ++ b) j 0) (length a) k
    ∙ rw (
      numerator_same n m (λ j. get_or (a ++ b) (length a + j) 0) (λ j. get_or b j 0) k (λ j h. get_or-append-add a b j 0),
      numerator_same n m (λ j. get_or (a ++ b) j 0) (λ j. get_or a j 0) (length a) (λ j h. get_or-append a b 0 j h),
    )

-- ---- what t steps of whole cycles lack. w and y are W and XC; p and s are D^t and (D-N)^t, and x is X over those steps

-- a cycle more: r is (D-N)^C
pub lack_turn : (w r y p s x : ℕ) → x * w + y * s ≡ y * p → (y * p + r * x) * w + y * (s * r) ≡ y * (p * (w + r))
lack_turn w r y p s x h = omega (arith, ap (λ (z : ℕ). r * z) h)

-- k steps more: d and r are D^k and (D-N)^k, and xk is X over those steps of one cycle
pub lack_more : (w y p s x r xk : ℕ) → x * w + y * s ≡ y * p → (xk * p + r * x) * w + r * y * s ≡ (xk * w + r * y) * p
lack_more w y p s x r xk h = omega (arith, ap (λ (z : ℕ). r * z) h)

-- it is small where the powers have grown apart
lack_small : (u r d s p w y b : ℕ) → r ≤ d → y ≤ b * w → u * b * s ≤ p → u * (r * y * s) ≤ d * w * p
lack_small u r d s p w y b hr hy hs =
    let most : u * r * s * y ≤ u * r * s * (b * w) = mul-le-mul_left (u * r * s) hy in
    let few : r * w * (u * b * s) ≤ d * w * p = mul-le-mul (mul-le-mul_right w hr) hs in
    omega (arith, most, few)

-- so the repeating flow, f / (d·w), is above that from empty, x / (p·d), by no more than 1 / u
above_from : (u x f p d w lack : ℕ) → x * w + lack ≡ f * p → u * lack ≤ d * w * p
    → Above u (record { num = x; den = p * d }) (record { num = f; den = d * w })
above_from u x f p d w lack e small =
    record {
      low = omega (arith, ap (λ (z : ℕ). d * z) e);
      high = omega (arith, ap (λ (z : ℕ). u * d * z) e, mul-le-mul_left d small);
    }

pub lack_above : (u r d s p w y b x f : ℕ) → r ≤ d → y ≤ b * w → u * b * s ≤ p → x * w + r * y * s ≡ f * p
    → Above u (record { num = x; den = p * d }) (record { num = f; den = d * w })
lack_above u r d s p w y b x f hr hy hs e = above_from u x f p d w (r * y * s) e (lack_small u r d s p w y b hr hy hs)

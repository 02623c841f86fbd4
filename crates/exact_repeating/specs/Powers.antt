-- Powers: of sums and products of exponents, and how soon the powers of a number outgrow those of a smaller one.
use Rattle.std.specs.Prelude.{ℕ, zero, suc, ◌+◌, ◌*◌, ◌^◌, ◌≤◌, ◌≡◌}
use Rattle.std.proofs.Math.Nat.{pow-zero, pow-le-pow_left, le_dest}
use Rattle.std.proofs.Common.{pow-suc, mul-zero, mul-le-mul, mul-le-mul_left, mul-le-mul_right, le-add_left, le_trans, arith, ap}

pub pow_add : (a i j : ℕ) → a ^ (i + j) ≡ a ^ i * a ^ j
pow_add a i zero = let e : i + 0 ≡ i = omega arith in rw (e, pow-zero) (omega arith)
pow_add a i (suc j) =
    let e : i + suc j ≡ suc (i + j) = omega arith in
    rw (e, pow-suc a (i + j), pow-suc a j, pow_add a i j) (omega arith)

pub pow_mul : (a i j : ℕ) → a ^ (i * j) ≡ (a ^ i) ^ j
pow_mul a i zero = rw (mul-zero, pow-zero a, pow-zero (a ^ i))
pow_mul a i (suc j) =
    let e : i * suc j ≡ i * j + i = omega arith in
    rw (e, pow_add a (i * j) i, pow-suc (a ^ i) j, pow_mul a i j)

-- Bernoulli: the first two terms of (n + m)^k
bernoulli : (n m k : ℕ) → m ^ suc k + suc k * n * m ^ k ≤ (n + m) ^ suc k
bernoulli n m zero = rw (pow-suc m 0, pow-suc (n + m) 0, pow-zero m, pow-zero (n + m)) (omega arith)
bernoulli n m (suc k) =
    rw (pow-suc m (suc k), pow-suc (n + m) (suc k))
    (omega (arith, mul-le-mul_right (n + m) (bernoulli n m k), ap (λ (z : ℕ). suc k * n * z) (pow-suc m k)))

-- so it is at least twice m^k where k·n is at least m
twice : (n m k : ℕ) → m ≤ suc k * n → 2 * m ^ suc k ≤ (n + m) ^ suc k
twice n m k h = omega (arith, bernoulli n m k, pow-suc m k, mul-le-mul_left (m ^ k) h)

-- and the powers of what is at least twice as large grow at least twice as fast
doubled : (a b i : ℕ) → 2 * a ≤ b → 2 ^ i * a ^ i ≤ b ^ i
doubled a b zero h = rw (pow-zero 2, pow-zero a, pow-zero b) (omega arith)
doubled a b (suc i) h =
    let e : 2 ^ i * 2 * (a ^ i * a) ≡ 2 ^ i * a ^ i * (2 * a) = omega arith in
    rw (pow-suc 2 i, pow-suc a i, pow-suc b i, e) (mul-le-mul (doubled a b i h) h)

-- so (n + m)^t is at least b times m^t from t = (k + 1)·i on, where (k + 1)·n is at least m and 2^i at least b
pub outgrows : (n m k i t b : ℕ) → m ≤ suc k * n → b ≤ 2 ^ i → suc k * i ≤ t → b * m ^ t ≤ (n + m) ^ t
outgrows n m k i t b hm hb ht = go (le_dest ht)
  where
    go : (r : ℕ) × (suc k * i + r ≡ t) → b * m ^ t ≤ (n + m) ^ t
    go (r, e) =
        let assoc : b * ((m ^ suc k) ^ i * m ^ r) ≡ b * (m ^ suc k) ^ i * m ^ r = omega arith in
        rw (← e, pow_add m (suc k * i) r, pow_add (n + m) (suc k * i) r, pow_mul m (suc k) i, pow_mul (n + m) (suc k) i, assoc)
        (mul-le-mul
        (le_trans (mul-le-mul_right ((m ^ suc k) ^ i) hb) (doubled (m ^ suc k) ((n + m) ^ suc k) i (twice n m k hm)))
        (pow-le-pow_left (le-add_left m n) r))

-- Laws of specs/Turn.antt: The turn of the cycle: numbers counted on past the end of a cycle of c steps, and the steps that they are.
use Rattle.std.specs.Prelude.{ℕ, suc, ◌+◌, ◌-◌, ◌*◌, ◌/◌, ◌%◌, ◌≤◌, ◌<◌, ◌≡◌}
use Rattle.std.proofs.Common.{arith, mod-lt, mod-eq_of_lt, mul-le-mul_right, ap, sym, ◌∙◌}
use Rattle.std.proofs.Math.Nat.{div-add-mod, add-mul-mod_self_left}
use Rattle.signal.specs.Turn.{turn, earlier, Once, Turned}

-- the turned step lies from 1 to c
pub turn_pos : (c n : ℕ) → 0 < turn c n
unfolding turn
turn_pos c n = omega arith

pub turn_le : (c n : ℕ) → 0 < c → turn c n ≤ c
unfolding turn
turn_le c n h = omega (arith, mod-lt (n - 1) {m = c} h)

-- and so its place is one of a list of c
pub place_lt : (c n : ℕ) → 0 < c → turn c n - 1 < c
place_lt c n h = omega (arith, turn_le c n h, turn_pos c n)

-- whole cycles away from the number
pub turn_whole : (c n : ℕ) → 0 < n → n ≡ turn c n + c * ((n - 1) / c)
unfolding turn
turn_whole c n h = omega (arith, div-add-mod (n - 1) c)

-- a step of the cycle is itself
pub turn_same : (c n : ℕ) → 0 < n → n ≤ c → turn c n ≡ n
unfolding turn
turn_same c n h r =
    let e : (n - 1) % c ≡ n - 1 = mod-eq_of_lt (omega arith) in
    omega arith

-- whole cycles change nothing
pub turn_cycle : (c n k : ℕ) → 0 < n → turn c (n + c * k) ≡ turn c n
unfolding turn
turn_cycle c n k h =
    let e : n + c * k - 1 ≡ n - 1 + c * k = omega arith in
    rw (e, add-mul-mod_self_left)

-- counted on from the turned step as from the number
pub turn_on : (c n k : ℕ) → 0 < n → turn c (turn c n + k) ≡ turn c (n + k)
turn_on c n k pos =
    let e : n + k ≡ turn c n + k + c * ((n - 1) / c) = omega (arith, turn_whole c n pos) in
    sym (ap (turn c) e ∙ turn_cycle c (turn c n + k) ((n - 1) / c) (omega (arith, turn_pos c n)))

pub earlier_pos : (c t s : ℕ) → 0 < earlier c t s
unfolding earlier
earlier_pos c t s = turn_pos c _

pub earlier_le : (c t s : ℕ) → 0 < c → earlier c t s ≤ c
unfolding earlier
earlier_le c t s h = turn_le c _ h

-- t steps back and t steps on
module _ (c t s : ℕ) (pos : 0 < s) (fits : s ≤ c) where
  on : t ≤ c * t
  on = let some : 1 ≤ c = omega arith in omega (arith, mul-le-mul_right t some)

  round : turn c (s + c * t) ≡ s
  round = turn_cycle c s t pos ∙ turn_same c s pos fits

  pub earlier_lands : turn c (earlier c t s + t) ≡ s
  unfolding earlier
  earlier_lands = turn_on c _ t (omega (arith, on)) ∙ ap (turn c) (omega (arith, on)) ∙ round

  earlier_of : earlier c t (turn c (s + t)) ≡ s
  unfolding earlier
  earlier_of =
      let e : turn c (s + t) + c * t - t ≡ turn c (s + t) + (c * t - t) = omega (arith, on) in
      let f : s + t + (c * t - t) ≡ s + c * t = omega (arith, on) in
      rw e (turn_on c (s + t) (c * t - t) (omega arith) ∙ rw f round)

-- two steps of the cycle that lie t steps before the same one are the same
pub lands_apart : (c t i j : ℕ) → 0 < i → i ≤ c → 0 < j → j ≤ c → turn c (i + t) ≡ turn c (j + t) → i ≡ j
lands_apart c t i j hi li hj lj e = sym (earlier_of c t i hi li) ∙ ap (earlier c t) e ∙ earlier_of c t j hj lj

-- of the c numbers from n on: that of the step n - 1 before s, counted from 1
once : (c n s : ℕ) → 0 < n → 0 < s → s ≤ c → Once c n s
once c n s from pos fits =
    let k = earlier c (n - 1) s in
    let low = earlier_pos c (n - 1) s in
    let high = earlier_le c (n - 1) s (omega arith) in
    let lands : n + (k - 1) ≡ k + (n - 1) = omega arith in
    record {
      at = k - 1;
      within = omega arith;
      gives = ap (turn c) lands ∙ earlier_lands c (n - 1) s pos fits;
      only = λ i h gives.
          let e : n + i ≡ suc i + (n - 1) = omega arith in
          let same : suc i ≡ k =
          lands_apart c (n - 1) (suc i) k (omega arith) (omega arith) low high ((rw e at gives) ∙ sym (earlier_lands c (n - 1) s pos fits)) in
          omega arith;
    }

-- for every cycle and every number from 1
pub turned : (c n : ℕ) → 1 ≤ c → 1 ≤ n → Turned c n (turn c n)
turned c n some from =
    record {
      first = turn_pos c n;
      last = turn_le c n some;
      cycles = (n - 1) / c;
      away = turn_whole c n from;
      each = λ q pos fits. once c n q from pos fits;
    }

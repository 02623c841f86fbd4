-- Laws of specs/Greens.antt: Greens: a green of a start post b and so many steps g has the steps b + 1 to b + g, and a step past c continues at 1.
use Prim.Native.Nat.{ℕ, zero, suc, ◌+◌, ◌-◌, ◌≤◌, ◌<◌}
use Rattle.std.proofs.Common.{arith, ◌∙◌}
use Rattle.std.specs.Prelude.{Bool, ◌||◌, ◌≡◌, [], eqb, length}
use Rattle.std.proofs.Math.Bool.{true, false, cond}
use Rattle.std.proofs.Math.Path.{refl, ap, sym}
use Rattle.std.proofs.Math.Dec.{ltb}
use borrow.Author.Tests.{eqb-true, ltb-true, ltb-false}
use Rattle.lists.specs.Lists.{sum, tab, tab_length, tab_same, tab_sum, tab_one, tab_zero}
use Rattle.signal.specs.declared.Green.{Green}
use Rattle.signal.specs.Turn.{turn, earlier}
use Rattle.signal.proofs.Turn.{turn_pos, turn_le, lands_apart, earlier_pos, earlier_le, earlier_lands}
use Rattle.signal.specs.Greens.{GreenFits, green_step, green_steps, has, in_green, has_in, has_out}

-- it lies k steps past the start post
pub green_lands : (c : ℕ) (green : Green) (k : ℕ) → green_step c green k ≡ turn c (k + green.start.0)
unfolding green_step
green_lands c green k = ap (turn c) (omega arith)

-- each lies from 1 to c
pub green_pos : (c : ℕ) (green : Green) (k : ℕ) → 0 < green_step c green k
unfolding green_step
green_pos c green k = turn_pos c (green.start.0 + k)

pub green_le : (c : ℕ) (green : Green) (k : ℕ) → 0 < c → green_step c green k ≤ c
unfolding green_step
green_le c green k h = turn_le c (green.start.0 + k) h

-- so many as its length
pub green_count : (c : ℕ) (green : Green) → length (green_steps c green) ≡ green.steps
unfolding green_steps
green_count c green = tab_length (green_step c green) 1 green.steps

-- no two of c in a row are the same
pub green_apart : (c : ℕ) (green : Green) (j k : ℕ) → 0 < j → j ≤ c → 0 < k → k ≤ c → green_step c green j ≡ green_step c green k → j ≡ k
green_apart c green j k hj lj hk lk e = lands_apart c green.start.0 j k hj lj hk lk (sym (green_lands c green j) ∙ e ∙ green_lands c green k)

-- the one place of a step in the order of a green
module _ (c : ℕ) (green : Green) (w : GreenFits c green) (s : ℕ) (pos : 0 < s) (fits : s ≤ c) where
  falls : green_step c green (earlier c green.start.0 s) ≡ s
  falls = green_lands c green (earlier c green.start.0 s) ∙ earlier_lands c green.start.0 s pos fits

  only : (k : ℕ) → 1 ≤ k → k < 1 + green.steps → green_step c green k ≡ s → k ≡ earlier c green.start.0 s
  only k h r e =
      let b = green.start.0 in
      green_apart c green k (earlier c b s) (omega arith) (omega (arith, w.steps)) (earlier_pos c b s) (earlier_le c b s (omega arith)) (e ∙ sym falls)

  -- a step is green where the step that stands as many steps before it as the start post is one of the first g
  pub in_green_earlier : in_green c green s ≡ ltb (earlier c green.start.0 s - 1) green.steps
  unfolding in_green green_steps
  in_green_earlier = go (ltb (earlier c green.start.0 s - 1) green.steps) refl
    where
      go : (t : Bool) → ltb (earlier c green.start.0 s - 1) green.steps ≡ t → has s (tab (green_step c green) 1 green.steps) ≡ t
      go true q =
          let b = green.start.0 in
          has_in (green_step c green) s 1 green.steps (earlier c b s) (earlier_pos c b s)
          (omega (arith, ltb-true (earlier c b s - 1) green.steps q)) falls
      go false q =
          has_out (green_step c green) s 1 green.steps
          (λ j h r e.
          let z = only j h r e in
          let g = ltb-false (earlier c green.start.0 s - 1) green.steps q in
          omega arith)

-- step k of a green stands k steps after its start post
pub earlier_green : (c : ℕ) (green : Green) (k : ℕ) → GreenFits c green → 0 < k → k ≤ c → earlier c green.start.0 (green_step c green k) ≡ k
earlier_green c green k w first fits =
    let b = green.start.0 in
    let s = green_step c green k in
    let le = green_le c green k (omega arith) in
    green_apart c green (earlier c b s) k (earlier_pos c b s) (earlier_le c b s (omega arith)) first fits (falls c green w s (green_pos c green k) le)

-- what its steps bring is what the cycle's steps bring, each where it is green
module _ (c : ℕ) (green : Green) (f : ℕ → ℕ) (pos : 0 < c) where
  steps_over : (n i : ℕ) → 0 < i → i + n ≤ c + 1 →
      sum (tab (λ k. f (green_step c green k)) i n) ≡ sum (tab (λ s. cond (has s (tab (green_step c green) i n)) (f s) 0) 1 c)
  unfolding sum tab has
  steps_over zero i first fits = sym (tab_zero 1 c)
  steps_over (suc n) i first fits =
      let x = green_step c green i in
      let later = tab (green_step c green) (suc i) n in
      ap (λ (m : ℕ). f x + m) (steps_over n (suc i) (omega arith) (omega arith))
      ∙ ap (λ (m : ℕ). m + sum (tab (λ s. cond (has s later) (f s) 0) 1 c))
      (sym (tab_one c x (f x) 1 (omega (arith, green_le c green i pos)) (green_pos c green i)))
      ∙ sym (tab_sum (λ s. cond (eqb x s) (f x) 0) (λ s. cond (has s later) (f s) 0) 1 c)
      ∙ ap sum (tab_same (λ s. cond (eqb x s) (f x) 0 + cond (has s later) (f s) 0) (λ s. cond (eqb x s || has s later) (f s) 0) 1 c
      (λ k h. one (1 + k) (eqb x (1 + k)) refl))
    where
      new : (s : ℕ) → green_step c green i ≡ s → has s (tab (green_step c green) (suc i) n) ≡ false
      new s e =
          has_out (green_step c green) s (suc i) n
          (λ k h r q. let z = green_apart c green i k first (omega arith) (omega arith) (omega arith) (e ∙ sym q) in omega arith)

      one : (s : ℕ) (b : Bool) → eqb (green_step c green i) s ≡ b →
          cond (eqb (green_step c green i) s) (f (green_step c green i)) 0 + cond (has s (tab (green_step c green) (suc i) n)) (f s) 0
          ≡ cond (eqb (green_step c green i) s || has s (tab (green_step c green) (suc i) n)) (f s) 0
      one s true e =
          let q = eqb-true (green_step c green i) s e in
          rw (e, new s q, q) (omega arith)
      one s false e = rw e (omega arith)

pub green_over : (c : ℕ) (green : Green) (f : ℕ → ℕ) → GreenFits c green →
    sum (tab (λ k. f (green_step c green k)) 1 green.steps) ≡ sum (tab (λ s. cond (in_green c green s) (f s) 0) 1 c)
unfolding in_green green_steps
green_over c green f w = steps_over c green f (omega (arith, w.start)) green.steps 1 (omega arith) (omega (arith, w.steps))

-- a green of no steps has none
pub green_none : (c : ℕ) (green : Green) → green.steps ≡ 0 → green_steps c green ≡ []
unfolding green_steps tab
green_none c green e = rw e

-- a green of c steps has all
pub green_all : (c : ℕ) (green : Green) → GreenFits c green → green.steps ≡ c → (s : ℕ) → 0 < s → s ≤ c → in_green c green s ≡ true
unfolding in_green green_steps
green_all c green w e s pos fits =
    has_in (green_step c green) s 1 green.steps (earlier c green.start.0 s) (earlier_pos c _ s)
    (omega (arith, earlier_le c green.start.0 s (omega arith))) (falls c green w s pos fits)

-- Laws of specs/Landing.antt: Numbers laid around the cycle, each so many steps after its own: greens by their start post, arrivals by the travel time.
use Prim.Native.Nat.{ℕ, suc, ◌+◌, ◌-◌, ◌≤◌, ◌<◌}
use native.Mathlib.Omega.{arith}
use Rattle.std.specs.Prelude.{Bool, ◌≡◌, length, set, replicate}
use Rattle.std.proofs.Math.Bool.{true, false, cond}
use Rattle.std.proofs.Math.Path.{refl, ap, sym}
use Rattle.std.proofs.Common.{◌∙◌, length-set, get_or-set_same, get_or-set_other}
use mathlib.Core.List.{List, [], ◌∷◌}
use Rattle.std.proofs.Math.Dec.{eqb}
use Rattle.std.proofs.Math.ListN.{get_or}
use Rattle.std.proofs.lemmas.List.{length-replicate}
use borrow.Author.Tests.{eqb-true, eqb-false, eq-eqb, ne_eqb}
use Rattle.lists.specs.Lists.{sum, zeros_at, tab, tab_length, tab_at, tab_each_le, tab_is, tab_same, tab_sum, tab_one, tab_zero}
use Rattle.signal.specs.Turn.{turn, earlier}
use Rattle.signal.proofs.Turn.{turn_pos, turn_le, lands_apart, earlier_pos, earlier_le, earlier_lands}
use Rattle.signal.specs.Landing.{landing, landed, added}

pub added_length : (c t i : ℕ) (ps run : List ℕ) → length (added c t i ps run) ≡ length run
unfolding added
added_length c t i [] run = refl
added_length c t i (p ∷ ps) run =
    added_length c t (suc i) ps (set run (turn c (i + t) - 1) (get_or run (turn c (i + t) - 1) 0 + p)) ∙ length-set run _ _

one_added : (run : List ℕ) (j s p : ℕ) → 0 < j → j ≤ length run → 0 < s →
    get_or (set run (j - 1) (get_or run (j - 1) 0 + p)) (s - 1) 0 ≡ get_or run (s - 1) 0 + cond (eqb j s) p 0
one_added run j s p pos h hs = go (eqb j s) refl
  where
    go : (b : Bool) → eqb j s ≡ b → get_or (set run (j - 1) (get_or run (j - 1) 0 + p)) (s - 1) 0 ≡ get_or run (s - 1) 0 + cond b p 0
    go true e = let q : j ≡ s = eqb-true j s e in rw (← q) (get_or-set_same run (j - 1) (get_or run (j - 1) 0 + p) 0 (omega arith))
    go false e =
        let ne = eqb-false j s e in
        get_or-set_other run (j - 1) (s - 1) (get_or run (j - 1) 0 + p) 0 (λ x. ne (omega arith)) ∙ omega arith

-- number by number
pub added_at : (c t i s : ℕ) (ps run : List ℕ) → 0 < c → length run ≡ c → 0 < s →
    get_or (added c t i ps run) (s - 1) 0 ≡ get_or run (s - 1) 0 + landing c t s i ps
unfolding added landing
added_at c t i s [] run pos l hs = omega arith
added_at c t i s (p ∷ ps) run pos l hs =
    let n = turn c (i + t) in
    added_at c t (suc i) s ps (set run (n - 1) (get_or run (n - 1) 0 + p)) pos (simp length-set l) hs
    ∙ rw (one_added run n s p (turn_pos c (i + t)) (omega (arith, turn_le c (i + t) pos)) hs) (omega arith)

-- added to a cycle, each step has what it had and what lands there
pub added_tab : (c t : ℕ) (r : ℕ → ℕ) (ps : List ℕ) → 0 < c → added c t 1 ps (tab r 1 c) ≡ tab (λ s. r s + landing c t s 1 ps) 1 c
added_tab c t r ps pos =
    tab_is (λ s. r s + landing c t s 1 ps) 1 c (added c t 1 ps (tab r 1 c)) (added_length c t 1 ps (tab r 1 c) ∙ tab_length r 1 c)
    (λ k hk.
    let e : 1 + k - 1 ≡ k = omega arith in
    let a = added_at c t 1 (1 + k) ps (tab r 1 c) pos (tab_length r 1 c) (omega arith) in
    (rw e at a) ∙ ap (λ (z : ℕ). z + landing c t (1 + k) 1 ps) (tab_at r 1 c k hk))

-- added to an empty cycle, it is what lands
pub added_landed : (c t : ℕ) (ps : List ℕ) → 0 < c → added c t 1 ps (replicate c 0) ≡ landed c t ps
unfolding landed
added_landed c t ps pos =
    ap (added c t 1 ps) (tab_is (λ s. 0) 1 c (replicate c 0) (length-replicate c 0) (λ k hk. zeros_at c k))
    ∙ added_tab c t (λ s. 0) ps pos
    ∙ tab_same (λ s. 0 + landing c t s 1 ps) (λ s. landing c t s 1 ps) 1 c (λ k hk. omega arith)

-- nothing lands in step s but the number of the one step that lands there
module _ (c t s m : ℕ) (pm : 0 < m) (hm : m ≤ c) (lands : turn c (m + t) ≡ s) where
  none : (i : ℕ) (ps : List ℕ) → m < i → i + length ps ≤ c + 1 → landing c t s i ps ≡ 0
  unfolding landing
  none i [] h r = refl
  none i (p ∷ ps) h r =
      let ne : turn c (i + t) ≡ s → ⊥ = λ e. (let q : i ≡ m = lands_apart c t i m (omega arith) (omega arith) pm hm (e ∙ sym lands) in omega arith) in
      rw (ne_eqb (turn c (i + t)) s ne, none (suc i) ps (omega arith) (omega arith))

  one : (i : ℕ) (ps : List ℕ) → 0 < i → i ≤ m → i + length ps ≤ c + 1 → landing c t s i ps ≡ get_or ps (m - i) 0
  unfolding landing
  one i [] p0 h r = refl
  one i (p ∷ ps) p0 h r = go (eqb i m) refl (λ (h' : suc i ≤ m). one (suc i) ps (omega arith) h' (omega arith))
    where
      go : (b : Bool) → eqb i m ≡ b → (suc i ≤ m → landing c t s (suc i) ps ≡ get_or ps (m - suc i) 0)
          → cond (eqb (turn c (i + t)) s) p 0 + landing c t s (suc i) ps ≡ get_or (p ∷ ps) (m - i) 0
      go true e f =
          let q : i ≡ m = eqb-true i m e in
          let z : m - i ≡ 0 = omega arith in
          let l : turn c (i + t) ≡ s = ap (λ (x : ℕ). turn c (x + t)) q ∙ lands in
          rw (eq-eqb (turn c (i + t)) s l, none (suc i) ps (omega arith) (omega arith), z) (omega arith)
      go false e f =
          let ne : i ≡ m → ⊥ = eqb-false i m e in
          let nl : turn c (i + t) ≡ s → ⊥ = λ x. ne (lands_apart c t i m p0 (omega arith) pm hm (x ∙ sym lands)) in
          let z : m - i ≡ suc (m - suc i) = omega arith in
          rw (ne_eqb (turn c (i + t)) s nl, f (omega arith), z) (omega arith)

-- what lands in step s is the number of the step that stands t before it
pub landing_is : (c t s : ℕ) (ps : List ℕ) → 0 < s → s ≤ c → length ps ≤ c → landing c t s 1 ps ≡ get_or ps (earlier c t s - 1) 0
landing_is c t s ps h r l =
    one c t s (earlier c t s) (earlier_pos c t s) (earlier_le c t s (omega arith)) (earlier_lands c t s h r) 1 ps (omega arith)
    (earlier_pos c t s) (omega arith)

-- no step has more than the largest number
pub landed_le : (c t m : ℕ) (ps : List ℕ) → length ps ≤ c → ((j : ℕ) → get_or ps j 0 ≤ m) → (i : ℕ) → get_or (landed c t ps) i 0 ≤ m
unfolding landed
landed_le c t m ps l h =
    tab_each_le m (λ s. landing c t s 1 ps) 1 c (λ s pos fits. rw (landing_is c t s ps pos (omega arith) l) (h (earlier c t s - 1)))

-- nothing is lost: the cycle adds to what its numbers add to
pub landed_sum : (c t i : ℕ) (ps : List ℕ) → 0 < c → sum (tab (λ s. landing c t s i ps) 1 c) ≡ sum ps
unfolding landing sum
landed_sum c t i [] pos = tab_zero 1 c
landed_sum c t i (p ∷ ps) pos =
    tab_sum (λ s. cond (eqb (turn c (i + t)) s) p 0) (λ s. landing c t s (suc i) ps) 1 c
    ∙ rw (tab_one c (turn c (i + t)) p 1 (omega (arith, turn_le c (i + t) pos)) (turn_pos c (i + t)), landed_sum c t (suc i) ps pos)

-- A segment at rest: once a cycle leaves the state in which it began, every later one is the same, number for number. So one more, where
-- two profiles are to hold it, is all that needs working.
use Rattle.std.specs.Prelude.{ℕ, zero, suc, ◌+◌, ◌%◌, ◌≤◌, Bool, true, false, ◌&&◌, cond, ◌≡◌, refl, List, ◌++◌, eqb, ltb, length, drop}
use Rattle.std.proofs.Math.Nat.{le_dest}
use Rattle.std.proofs.Common.{arith, ap, sym, ◌∙◌}
use Rattle.dispersion.specs.declared.PlatoonState.{PlatoonState}
use Rattle.dispersion.specs.Dispersion.{arrivals, state_after, repeated, reported, Work, work, cycles_worked}
use Rattle.dispersion.specs.Arrivals.{arrivals_append, state_append}
use Rattle.dispersion.specs.Cycles.{end_of, end_next, end_after, reported_is, held_after, cycles_left}

-- a cycle leaves the state in which it began
abbrev pub AtRest : ℕ → List ℕ → PlatoonState → Type 0
AtRest running q s = state_after running q s ≡ s

-- how many cycles need working once so many are: where the last of them left the state in which it began, as many more as other profiles
-- are to hold it
unfoldable pub same_state : (before after : PlatoonState) → Bool
same_state before after = eqb before.level after.level && eqb before.carry after.carry

abbrev pub needed_when : Bool → (worked others cycles : ℕ) → ℕ
needed_when rests worked others cycles = cond rests (worked + others) cycles

unfoldable pub needed_of : (worked others cycles : ℕ) → (before after : PlatoonState) → ℕ
needed_of worked others cycles before after = needed_when (ltb worked cycles && same_state before after) worked others cycles

-- cycles from a resting state give the same arrivals, one after the other, and leave the same state
pub rest_again : (running : ℕ) (q : List ℕ) (s : PlatoonState) → AtRest running q s → (j : ℕ)
    → (state_after running (repeated j q) s ≡ s) × (arrivals running (repeated j q) s ≡ repeated j (arrivals running q s))
unfolding repeated state_after arrivals
rest_again running q s h zero = (refl, refl)
rest_again running q s h (suc j) =
    let before = rest_again running q s h j in (
      state_append running (repeated j q) q s ∙ ap (state_after running q) before.0 ∙ h,
      arrivals_append running (repeated j q) q s ∙ rw (before.0, before.1),
    )

-- ---- from the cycle on that the segment rests in

-- both profiles with the cycle from a state in front
abbrev both_hold : ℕ → List ℕ → PlatoonState → (f g : List ℕ) → Work
both_hold running q s f g = work s (arrivals running q s ++ drop (length q) f) (arrivals running q s ++ drop (length q) g)

module _ (running : ℕ) (q : List ℕ) (k : ℕ) (h : AtRest running q (end_of running q k)) where
  pub rest_end : (j : ℕ) → end_of running q (k + j) ≡ end_of running q k
  rest_end j = end_after running q k j ∙ (rest_again running q (end_of running q k) h j).0

  pub rest_reported : (j : ℕ) → reported running q (suc (k + j)) ≡ arrivals running q (end_of running q k)
  rest_reported j = reported_is running q (k + j) ∙ ap (arrivals running q) (rest_end j)

  pub rest_same : (n : ℕ) → suc k ≤ n → reported running q (suc k) ≡ reported running q n
  rest_same n more = go (le_dest more)
    where
      go : (j : ℕ) × (suc k + j ≡ n) → reported running q (suc k) ≡ reported running q n
      go (j, e) =
          let all : n ≡ suc (k + j) = omega arith in
          reported_is running q k ∙ sym (rw all (rest_reported j))

  rest_held : (f g : List ℕ) (j : ℕ) (b : Bool) → held_after running q f g (k + j) b ≡ both_hold running q (end_of running q k) f g
  rest_held f g j b =
      let next : k + suc j ≡ suc (k + j) = omega arith in
      go b (rw next at (rest_reported (suc j))) (end_next running q (suc (k + j)) ∙ rw (← next, rest_end (suc j)) h)
    where
      go : (b : Bool) → reported running q (suc (suc (k + j))) ≡ arrivals running q (end_of running q k)
          → end_of running q (suc (suc (k + j))) ≡ end_of running q k
          → held_after running q f g (k + j) b ≡ both_hold running q (end_of running q k) f g
      go true r e = rw (e, r, rest_reported j)
      go false r e = rw (e, r, rest_reported j)

  -- so any number of cycles from the next on leaves the same
  pub rest_skips : (n : ℕ) (f g : List ℕ) → suc (suc k) ≤ n → cycles_worked running q (suc (suc k)) f g ≡ cycles_worked running q n f g
  rest_skips n f g more = go (le_dest more)
    where
      left : (j : ℕ) → cycles_worked running q (suc (suc (k + j))) f g ≡ both_hold running q (end_of running q k) f g
      left j = cycles_left running q (k + j) f g ∙ rest_held f g j (eqb ((k + j) % 2) 0)

      go : (j : ℕ) × (suc (suc k) + j ≡ n) → cycles_worked running q (suc (suc k)) f g ≡ cycles_worked running q n f g
      go (j, e) =
          let none : suc (suc k) ≡ suc (suc (k + 0)) = omega arith in
          let all : n ≡ suc (suc (k + j)) = omega arith in
          rw (none, all) (left 0 ∙ sym (left j))

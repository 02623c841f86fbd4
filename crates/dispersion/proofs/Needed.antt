-- How many cycles are needed after one more. What so many cycles leave is a parameter.
use Rattle.std.proofs.Common.{ℕ, ◌+◌, ◌≤◌, ◌<◌, arith, Bool, true, false, ◌&&◌, ◌≡◌, refl, ◌∙◌, ltb, ltb-true}
use Rattle.dispersion.specs.declared.PlatoonState.{PlatoonState}
use Rattle.dispersion.specs.declared.Turns.{Turns}
use Rattle.dispersion.specs.declared.Turns.TheVariants.{One, Two}
use Rattle.dispersion.specs.Turns.{others_of}
use Rattle.dispersion.specs.Rest.{same_state, needed_when, needed_of}
use Rattle.dispersion.proofs.Rest.{same_state_lem}

-- no fewer than are worked, no more than before, and they leave what all n do
pub record Enough {A : Type 0} (leaves : ℕ → A) (n needed k needed' : ℕ) : Type 0 where
  pub some : k + 1 ≤ needed'
  pub fewer : needed' ≤ needed
  pub enough : leaves needed' ≡ leaves n

others_le_1 : (turns : Turns) → others_of turns ≤ 1
others_le_1 One = omega arith
others_le_1 Two = omega arith

-- after cycle k + 1 from s to t, where a resting segment leaves the same from so many more on
module _ {A : Type 0} (leaves : ℕ → A) {n needed k : ℕ} (turns : Turns) {s t : PlatoonState} (more : k < needed)
    (before : leaves needed ≡ leaves n) (rests : s ≡ t → k + 1 + others_of turns ≤ needed → leaves (k + 1 + others_of turns) ≡ leaves needed) where
  by_tests : (a b : Bool) → ltb (k + 1) needed ≡ a → same_state s t ≡ b → Enough leaves n needed k (needed_when (a && b) (k + 1) (others_of turns) needed)
  by_tests true true ea eb =
      let less = ltb-true (k + 1) needed ea in
      let few = others_le_1 turns in
      record { some = omega arith; fewer = omega arith; enough = rests (same_state_lem s t eb) (omega arith) ∙ before }
  by_tests true false ea eb = record { some = omega arith; fewer = omega arith; enough = before }
  by_tests false b ea eb = record { some = omega arith; fewer = omega arith; enough = before }

  pub next_needed : {needed' : ℕ} → needed' ≡ needed_of (k + 1) (others_of turns) needed s t → Enough leaves n needed k needed'
  unfolding needed_of
  next_needed e = rw e (by_tests (ltb (k + 1) needed) (same_state s t) refl refl)

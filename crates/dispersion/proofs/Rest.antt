-- Laws of specs/Rest.antt.
use Rattle.std.specs.Prelude.{ℕ, Bool, true, false, ◌&&◌, ◌≡◌, refl, eqb}
use Rattle.std.proofs.Common.{arith, ap, ◌∙◌, eqb-true}
use Rattle.dispersion.specs.declared.PlatoonState.{PlatoonState}
use Rattle.dispersion.specs.Rest.{same_state}

-- what the test calls the same is
pub same_state_lem : (s t : PlatoonState) → same_state s t ≡ true → s ≡ t
unfolding same_state
same_state_lem s t e = go (eqb s.level t.level) (eqb s.carry t.carry) refl refl e
  where
    go : (a b : Bool) → eqb s.level t.level ≡ a → eqb s.carry t.carry ≡ b → (a && b) ≡ true → s ≡ t
    go true true ea eb e =
        ap (λ (x : ℕ). record { level = x; carry = s.carry }) (eqb-true s.level t.level ea)
        ∙ ap (λ (x : ℕ). record { level = t.level; carry = x }) (eqb-true s.carry t.carry eb)
    go true false ea eb e = absurd (let z : ◌≡◌ {A = ℕ} 0 1 = cc in omega arith)
    go false b ea eb e = absurd (let z : ◌≡◌ {A = ℕ} 0 1 = cc in omega arith)

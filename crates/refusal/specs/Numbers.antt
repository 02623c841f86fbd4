-- A number says which refusal it is. No refusal has 0, which is told where none is, nor 15, which tells a sum.
use Rattle.std.specs.Prelude.{ℕ, cond, ◌≡◌, refl, List, [], ◌∷◌, eqb}
use Rattle.std.proofs.Common.{arith, ap, sym, ◌∙◌}
use Rattle.refusal.specs.declared.Refusal.{Refusal}
use Rattle.refusal.specs.declared.Refusal.TheVariants.{Mark, Trailer, Places, Title, Order, Record, Cycle, RunningTime, Headway, Volume}
use Rattle.refusal.specs.declared.Refusal.TheVariants.{GreenTime, SeedRow, NoVolume, Unserved, ProfileRoom, BufferRoom, Full, PointCount}
use Rattle.refusal.specs.declared.Refusal.TheVariants.{PointRange, PageRoom}
use Rattle.refusal.specs.Refusal.{number}

abbrev refusals : List Refusal
refusals =
    Mark ∷ Trailer ∷ Places ∷ Title ∷ Order ∷ Record ∷ Cycle ∷ RunningTime ∷ Headway ∷ Volume
    ∷ GreenTime ∷ SeedRow ∷ NoVolume ∷ Unserved ∷ ProfileRoom ∷ BufferRoom ∷ Full ∷ PointCount ∷ PointRange ∷ PageRoom ∷ []

-- the first with that number; Mark where none has it
abbrev numbered : ℕ → List Refusal → Refusal
numbered n [] = Mark
numbered n (r ∷ rs) = cond (eqb n (number r)) r (numbered n rs)

numbered_is : (r : Refusal) → numbered (number r) refusals ≡ r
numbered_is Mark = refl
numbered_is Trailer = refl
numbered_is Places = refl
numbered_is Title = refl
numbered_is Order = refl
numbered_is Record = refl
numbered_is Cycle = refl
numbered_is RunningTime = refl
numbered_is Headway = refl
numbered_is Volume = refl
numbered_is GreenTime = refl
numbered_is SeedRow = refl
numbered_is NoVolume = refl
numbered_is Unserved = refl
numbered_is ProfileRoom = refl
numbered_is BufferRoom = refl
numbered_is Full = refl
numbered_is PointCount = refl
numbered_is PointRange = refl
numbered_is PageRoom = refl

-- two with one number are one
pub same_number : (q r : Refusal) → number q ≡ number r → q ≡ r
same_number q r e = sym (numbered_is q) ∙ ap (λ (n : ℕ). numbered n refusals) e ∙ numbered_is r

-- a number that no refusal has
none_has : (n : ℕ) → numbered n refusals ≡ Mark → (n ≡ 1 → ⊥) → (r : Refusal) → number r ≡ n → ⊥
none_has n other not1 r e =
    let is : r ≡ Mark = sym (numbered_is r) ∙ ap (λ (m : ℕ). numbered m refusals) e ∙ other in
    not1 (sym e ∙ ap number is)

pub never_0 : (r : Refusal) → number r ≡ 0 → ⊥
never_0 = none_has 0 refl (λ e. absurd (omega arith))

pub never_15 : (r : Refusal) → number r ≡ 15 → ⊥
never_15 = none_has 15 refl (λ e. absurd (omega arith))

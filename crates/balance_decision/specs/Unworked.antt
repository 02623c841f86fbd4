-- Why a working has no figures: the paper's number of each case, and the last sum that it tells.
use Rattle.std.specs.Prelude.{ℕ, ◌≡◌, refl, Result, Ok, Err, Float}
use Rattle.std.proofs.Common.{ap, sym}
use Rattle.refusal.specs.Refusal.{number, Or, ok_refused}
use Rattle.refusal.specs.Numbers.{same_number, never_15}
use Rattle.balance_flows.specs.Flows.{zero64}
use Rattle.balance_decision.specs.declared.Unworked.{Unworked}
use Rattle.balance_decision.specs.declared.Unworked.TheVariants.{Refused, Unsettled}

abbrev pub unworked_number : Unworked → ℕ
unworked_number (Refused refusal) = number refusal
unworked_number (Unsettled sum) = 15

-- 0 where the case tells none
abbrev pub last_sum : Unworked → Float
last_sum (Refused refusal) = zero64
last_sum (Unsettled sum) = sum

-- work on with what the tests answer; a refusal stays
abbrev pub work_on : {A B : Type 0} → Or A → (A → Result B Unworked) → Result B Unworked
work_on (Err refusal) f = Err (Refused refusal)
work_on (Ok a) f = f a

-- number and sum say which case it is
pub unworked_whole : (u v : Unworked) → unworked_number u ≡ unworked_number v → last_sum u ≡ last_sum v → u ≡ v
unworked_whole (Refused q) (Refused r) n x = ap Refused (same_number q r n)
unworked_whole (Refused q) (Unsettled y) n x = absurd (never_15 q n)
unworked_whole (Unsettled y) (Refused r) n x = absurd (never_15 r (sym n))
unworked_whole (Unsettled y) (Unsettled z) n x = ap Unsettled x

-- what is worked passed the tests, and is what was made of their answer
pub work_on_ok : {A B : Type 0} (x : Or A) (f : A → Result B Unworked) (b : B) → work_on x f ≡ Ok b → (a : A) × (x ≡ Ok a) × (f a ≡ Ok b)
work_on_ok (Err r) f b e = ok_refused (sym e)
work_on_ok (Ok a) f b e = (a, refl, e)

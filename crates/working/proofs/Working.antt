-- Laws of specs/Working.antt: the answer tells what was decided.
use Rattle.std.specs.Prelude.{◌≡◌, refl, Result, Ok, Err, Float}
use Rattle.segment.specs.declared.Segment.{Segment}
use Rattle.balance_decision.specs.declared.Decision.{Decision}
use Rattle.balance_decision.specs.declared.Unworked.{Unworked}
use Rattle.propagation.specs.Propagation.{Profiles}
use Rattle.working_outcome.specs.declared.Working.{Working}
use Rattle.working_outcome.specs.Answer.{worked_of}
use Rattle.working.specs.Working.{by_decision}

-- why there are no figures, or the last sum
abbrev outcome : {A : Type 0} → (A → Float) → Result A Unworked → Result Float Unworked
outcome sum (Err u) = Err u
outcome sum (Ok a) = Ok (sum a)

pub decided_outcome : (s : Segment) (x : Result Decision Unworked) (p : Profiles) →
    outcome (λ (w : Working). w.sum) (by_decision s x p).answer ≡ outcome (λ (d : Decision). d.sum) x
unfolding worked_of
decided_outcome s (Err u) p = refl
decided_outcome s (Ok d) p = refl

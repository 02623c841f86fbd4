-- A call that has worked, by what is decided of its record and of the lent profiles' lengths, and of its volumes.
use Rattle.std.specs.Prelude.{ℕ, ◌≡◌, List, Ok}
use Rattle.segment.specs.declared.Segment.{Segment}
use Rattle.validation.specs.Accepted.{Accepted}
use Rattle.balance_decision.specs.declared.Decision.{Decision}
use Rattle.propagation.specs.Propagation.{Profiles}
use Rattle.working_outcome.specs.declared.Working.{Working}
use Rattle.working_outcome.specs.Answer.{worked_of}
use Rattle.working.specs.Working.{decision_for, worked_call, call_of}

-- its record was accepted and decided to work, and the call is what that leaves
pub record WorkedBy (l : List ℕ) (p : Profiles) (w : Working) : Type 0 where
  pub segment : Segment
  pub decision : Decision
  pub accepted : Accepted l segment
  pub works : decision_for segment ≡ Ok decision
  pub answer : w ≡ worked_of segment decision
  pub is : call_of l p ≡ worked_call segment decision p

-- The record's tests as the code makes them: over the segment that was read, and before a call's own.
use Rattle.std.specs.Prelude.{ℕ, Bool, true, false, ◌≡◌, List, Ok, Err}
use Rattle.std.proofs.Common.{sym, ◌∙◌}
use Rattle.refusal.specs.declared.Refusal.{Refusal}
use Rattle.refusal.specs.Refusal.{Or, need, Test, first_failing}
use Rattle.segment.specs.declared.Segment.{Segment}
use Rattle.segment.specs.Segment.{segment_of}
use Rattle.validation.specs.Validation.{record_tests, check_of}
use Rattle.validation.specs.Accepting.{accept_with}

-- the tests of the bytes are those of the segment that was read
pub of_segment : (x : Or Segment) (l : List ℕ) (s : Segment) → s ≡ segment_of l → x ≡ first_failing (record_tests l s) s → x ≡ check_of l
unfolding check_of
of_segment x l s is e = rw is at e

-- a test that holds leaves those after it; one that fails is the answer
pub passes : (y : Or Segment) (r : Refusal) (t : Bool) (x : Or Segment) → t ≡ true → y ≡ x → y ≡ need r t x
unfolding need
passes y r t x h e = rw h e

pub fails : (r : Refusal) (t : Bool) (x : Or Segment) → t ≡ false → Err r ≡ need r t x
unfolding need
fails r t x h = rw h

-- a call's own tests come after the record's
module _ (l : List ℕ) (own : Segment → List Test) (checked : Or Segment) (is : checked ≡ check_of l) where
  pub accept_refused : (r : Refusal) → checked ≡ Err r → Err r ≡ accept_with l own
  unfolding accept_with
  accept_refused r e = rw (sym is ∙ e)

  pub accept_valid : (x : Or Segment) (s : Segment) → checked ≡ Ok s → x ≡ first_failing (own s) s → x ≡ accept_with l own
  unfolding accept_with
  accept_valid x s e h = rw (sym is ∙ e) h

pub ruleset ladder = (of_segment, passes, fails, accept_refused, accept_valid)

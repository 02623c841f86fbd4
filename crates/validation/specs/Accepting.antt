-- A call on a record: the refusals of the record, then those of the call's own tests.
use Rattle.std.specs.Prelude.{ℕ, List}
use Rattle.refusal.specs.Refusal.{Or, and_then, Test, first_failing}
use Rattle.segment.specs.declared.Segment.{Segment}
use Rattle.validation.specs.Validation.{check_of}

-- a call's own tests of a record, in order after the record's
unfoldable pub accept_with : List ℕ → (Segment → List Test) → Or Segment
accept_with l own = and_then (check_of l) (λ s. first_failing (own s) s)

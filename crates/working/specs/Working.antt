-- The working of a segment record over three lent profiles: what it answers and leaves in them, on every way.
use Rattle.std.specs.Prelude.{ℕ, ◌*◌, Bool, ◌&&◌, ◌≡◌, List, [], ◌∷◌, leb, length, Result, Ok, Err}
use Rattle.refusal.specs.declared.Refusal.TheVariants.{ProfileRoom}
use Rattle.refusal.specs.Refusal.{Or, test}
use Rattle.segment.specs.declared.Segment.{Segment}
use Rattle.segment.specs.Segment.{segment_of}
use Rattle.validation.specs.Accepting.{accept_with}
use Rattle.metering.specs.Metering.{discharge_volumes}
use Rattle.balance_decision.specs.declared.Decision.{Decision}
use Rattle.balance_decision.specs.declared.Unworked.{Unworked}
use Rattle.balance_decision.specs.declared.Unworked.TheVariants.{Refused}
use Rattle.balance_decision.specs.Decision.{decision_of}
use Rattle.propagation.specs.Propagation.{Profiles, filled_of}
use Rattle.accuracy.specs.Accuracy.{Accurate}
use Rattle.working_outcome.specs.declared.Working.{Working}
use Rattle.working_outcome.specs.Answer.{worked_of}

-- profiles of three lengths have room for a record's cycle
abbrev pub lengths_fit : (output first second : ℕ) → Segment → Bool
lengths_fit output first second s = leb (4 * s.cycle) output && leb s.cycle first && leb s.cycle second

-- lent profiles have room for it
abbrev pub fits : Profiles → Segment → Bool
fits p = lengths_fit (length p.output) (length p.first) (length p.second)

-- the places record and lent profiles, of which the lengths alone tell
abbrev pub accept_lengths_of : List ℕ → (output first second : ℕ) → Or Segment
accept_lengths_of l output first second = accept_with l (λ s. test ProfileRoom (lengths_fit output first second s) ∷ [])

abbrev pub accept_of : List ℕ → Profiles → Or Segment
accept_of l p = accept_lengths_of l (length p.output) (length p.first) (length p.second)

-- the place volumes: the sixteen pair flows, or 13, 14, 15
unfoldable pub decision_for : Segment → Result Decision Unworked
decision_for s = decision_of (discharge_volumes s) s.exits s.seeds

-- the answer, and the lent profiles afterwards
pub record Called : Type 0 where
  pub answer : Result Working Unworked
  pub after : Profiles

abbrev pub called : Result Working Unworked → Profiles → Called
called r p = record { answer = r; after = p }

-- worked and filled
abbrev pub worked_call : Segment → Decision → Profiles → Called
worked_call s d p = called (Ok (worked_of s d)) (filled_of s d.pairs.rows p)

-- or as it was, where the volumes decide otherwise
abbrev pub by_decision : Segment → Result Decision Unworked → Profiles → Called
by_decision s (Err u) p = called (Err u) p
by_decision s (Ok d) p = worked_call s d p

abbrev pub by_record : Or Segment → Profiles → Called
by_record (Err refusal) p = called (Err (Refused refusal)) p
by_record (Ok s) p = by_decision s (decision_for s) p

unfoldable pub call_of : List ℕ → Profiles → Called
call_of l p = by_record (accept_of l p) p

-- the call as called: its answer and all three profiles, and demand 3 of every record and all profiles that it accepts
pub record Works (l : List ℕ) (p : Profiles) (r : Result Working Unworked) (p' : Profiles) : Type 0 where
  pub is : called r p' ≡ call_of l p
  pub accurate : (w : Working) → r ≡ Ok w → Accurate (segment_of l) w.pairs.rows p'

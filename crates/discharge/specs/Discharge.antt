-- The discharge call on a segment record: three profiles of C numbers each, entries in order, and the three discharge volumes.
use Rattle.std.specs.Prelude.{ℕ, ◌*◌, ◌≡◌, List, [], ◌∷◌, leb, length, Ok, Err}
use Rattle.runs.specs.Runs.{run_at}
use Rattle.refusal.specs.declared.Refusal.TheVariants.{ProfileRoom}
use Rattle.refusal.specs.Refusal.{Or, and_then, test}
use Rattle.movements.specs.declared.Signalised.{Signalised}
use Rattle.segment.specs.declared.Segment.{Segment}
use Rattle.segment.specs.Segment.{segment_of}
use Rattle.validation.specs.Accepting.{accept_with}
use Rattle.metering.specs.Metering.{discharge_volume}
use Rattle.entries.specs.Entries.{entry_profiles, EntryDischarge}

-- the places record and lent profiles, and no other
abbrev pub accept_of : List ℕ → ℕ → Or Segment
accept_of l room = accept_with l (λ s. test ProfileRoom (leb (3 * s.cycle) room) ∷ [])

-- the three discharge volumes
abbrev pub volumes_of : Segment → Signalised ℕ
volumes_of s =
    record { left = discharge_volume s.cycle s.left; through = discharge_volume s.cycle s.through; right = discharge_volume s.cycle s.right }

-- what is answered: a refusal, or the volumes
abbrev pub volumes_after : Or Segment → Or (Signalised ℕ)
volumes_after x = and_then x (λ s. Ok (volumes_of s))

-- the lent profile afterwards: three runs in order, or as it was where the call refuses
abbrev pub profile_after : Or Segment → List ℕ → List ℕ
profile_after (Err r) p = p
profile_after (Ok s) p = entry_profiles s p

-- the three entries of a segment, read from the front of a profile, by their discharge volumes
pub record EntriesDischarge (s : Segment) (o : Signalised ℕ) (p : List ℕ) : Type 0 where
  pub left : EntryDischarge s.cycle s.left o.left (run_at s.cycle 0 p)
  pub through : EntryDischarge s.cycle s.through o.through (run_at s.cycle 1 p)
  pub right : EntryDischarge s.cycle s.right o.right (run_at s.cycle 2 p)

-- what the call answers and leaves in the profile, and what every accepted record's entries discharge there
pub record Calls (l p : List ℕ) (r : Or (Signalised ℕ)) (p' : List ℕ) : Type 0 where
  pub answer : r ≡ volumes_after (accept_of l (length p))
  pub profile : p' ≡ profile_after (accept_of l (length p)) p
  pub entries : (o : Signalised ℕ) → r ≡ Ok o → EntriesDischarge (segment_of l) o p'

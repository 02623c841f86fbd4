-- What the discharge call answers and writes, over plain variables.
use Rattle.std.specs.Prelude.{ℕ, ◌*◌, ◌≤◌, ◌≡◌, List, length, Ok}
use Rattle.std.proofs.Common.{leb-true}
use Rattle.movements.specs.declared.Signalised.{Signalised}
use Rattle.segment.specs.declared.Segment.{Segment}
use Rattle.validation.proofs.Accepting.{accept_passed}
use Rattle.entries.specs.Entries.{entry_profiles}
use Rattle.discharge.specs.Discharge.{accept_of, volumes_of, Calls}
use Rattle.discharge.proofs.Answered.{called}

-- the call from what it decided
module _ (l p : List ℕ) where
  pub asks : (s : Segment) → accept_of l (length p) ≡ Ok s → 3 * s.cycle ≤ length p
  asks s e = leb-true (3 * s.cycle) (length p) ((accept_passed l _ s e).1 16)

  pub writes : (s : Segment) → accept_of l (length p) ≡ Ok s → (o : Signalised ℕ) (p' : List ℕ) → o ≡ volumes_of s → p' ≡ entry_profiles s p →
      Calls l p (Ok o) p'
  writes s e o p' eo ep = called l p (Ok o) p' (rw (e, eo)) (rw e ep)

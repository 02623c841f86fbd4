-- Laws of specs/Discharge.antt: of every accepted record each entry's run in the profile is its discharge, at the volume answered; which refusals there are.
use Rattle.std.specs.Prelude.{ℕ, zero, suc, ◌<◌, ◌≡◌, refl, List, length, Ok, Err}
use Rattle.std.proofs.Common.{arith, sym, ◌∙◌}
use Rattle.refusal.specs.declared.Refusal.{Refusal}
use Rattle.refusal.specs.Refusal.{number, Or, ok_refused}
use Rattle.refusal.specs.Numbers.{never_0}
use Rattle.movements.specs.declared.Signalised.{Signalised}
use Rattle.segment.specs.declared.Segment.{Segment}
use Rattle.segment.specs.Segment.{segment_of}
use Rattle.ranges.specs.Ranges.{Ranges}
use Rattle.validation.proofs.Accepting.{accept_passed}
use Rattle.entries.specs.Entries.{entry_profiles}
use Rattle.entries.proofs.Laws.{entry_discharge, entry_runs}
use Rattle.discharge.specs.Discharge.{accept_of, volumes_of, volumes_after, profile_after, EntriesDischarge, Calls}

-- each run at its entry's discharge volume
runs_discharge : (s : Segment) (p : List ℕ) → Ranges s → EntriesDischarge s (volumes_of s) (entry_profiles s p)
runs_discharge s p r =
    let runs = entry_runs s p in
    record {
      left = rw runs.left (entry_discharge s.cycle s.left r.left);
      through = rw runs.through (entry_discharge s.cycle s.through r.through);
      right = rw runs.right (entry_discharge s.cycle s.right r.right);
    }

-- at the volumes that the call answered
entries_discharge : (l p : List ℕ) (r : Or (Signalised ℕ)) (p' : List ℕ) → r ≡ volumes_after (accept_of l (length p))
    → p' ≡ profile_after (accept_of l (length p)) p → (o : Signalised ℕ) → r ≡ Ok o → EntriesDischarge (segment_of l) o p'
entries_discharge l p r p' er ep o e = go (accept_of l (length p)) refl er ep
  where
    go : (x : Or Segment) → accept_of l (length p) ≡ x → r ≡ volumes_after x → p' ≡ profile_after x p → EntriesDischarge (segment_of l) o p'
    go (Err n) q er ep = ok_refused (sym e ∙ er)
    go (Ok s) q er ep =
        let a = (accept_passed l _ s q).0 in
        let eo : o ≡ volumes_of s = cc in
        rw (ep, eo, ← a.is) (runs_discharge s p a.ranges)

-- so the answer and the profile are all of the contract
pub called : (l p : List ℕ) (r : Or (Signalised ℕ)) (p' : List ℕ) → r ≡ volumes_after (accept_of l (length p)) → p' ≡ profile_after (accept_of l (length p)) p →
    Calls l p r p'
called l p r p' er ep = record { answer = er; profile = ep; entries = entries_discharge l p r p' er ep }

-- no refusal has the number 0
pub refused_above : (l : List ℕ) (room : ℕ) (r : Refusal) → volumes_after (accept_of l room) ≡ Err r → 0 < number r
refused_above l room r e = go (number r) refl
  where
    go : (n : ℕ) → number r ≡ n → 0 < n
    go zero z = absurd (never_0 r z)
    go (suc n) z = omega arith

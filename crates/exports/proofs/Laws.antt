-- Laws of specs/Exports.antt: the discharge call and the calls that write, in numbers.
use Rattle.std.specs.Prelude.{ℕ, ◌≡◌, refl, List, Ok, Err}
use Rattle.std.proofs.Common.{ap, sym, ◌∙◌}
use Rattle.refusal.specs.Refusal.{Or}
use Rattle.refusal.specs.Numbers.{never_0}
use Rattle.movements.specs.declared.Signalised.{Signalised}
use Rattle.segment.specs.Segment.{segment_of}
use Rattle.discharge.specs.Discharge.{EntriesDischarge, Calls}
use Rattle.propagation.specs.declared.LentProfiles.{LentProfiles}
use Rattle.propagation.specs.Propagation.{Same}
use Rattle.archive_format.specs.Archive.{Writes}
use Rattle.exports.specs.declared.VolumesAnswer.{VolumesAnswer}
use Rattle.exports.specs.declared.ValueAnswer.{ValueAnswer}
use Rattle.exports.specs.Exports.{SegmentDischarges, volumes_answer}
use Rattle.exports.specs.Exports.{value_answer, ArchiveWrites}

-- the discharge call's, in numbers
pub segment_discharges : (l p : List ℕ) (d : Or (Signalised ℕ)) (p' : List ℕ) (r : VolumesAnswer) → Calls l p d p' → r ≡ volumes_answer d
    → SegmentDischarges l p r p'
segment_discharges l p d p' r calls e =
    record {
      answer = e ∙ ap volumes_answer calls.answer;
      profile = calls.profile;
      entries = rw e (go d calls);
    }
  where
    go : (d : Or (Signalised ℕ)) → Calls l p d p' → (volumes_answer d).number ≡ 0 →
        let a = volumes_answer d in EntriesDischarge (segment_of l) (record { left = a.left; through = a.through; right = a.right }) p'
    go (Ok o) c z = c.entries o refl
    go (Err n) c z = absurd (never_0 n z)

-- a call that writes to a lent buffer, in numbers
pub archive_writes : {x : Or (List ℕ)} {before : List ℕ} {a : Or ℕ} {after : List ℕ} {r : ValueAnswer} → Writes x before a after → r ≡ value_answer a
    → ArchiveWrites x before r after
archive_writes w e = record { answer = e ∙ ap value_answer w.answer; buffer = w.buffer }

-- what a call left is read through the references that it was lent by the names of these
pub same_back : {p p' : LentProfiles} → Same p p' → Same p' p
same_back s = record { output = sym s.output; first = sym s.first; second = sym s.second }

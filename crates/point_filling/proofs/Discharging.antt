-- The record's three discharges, made in one for the longest cycle, as the points take them.
use Rattle.std.proofs.Common.{ℕ, ◌*◌, arith, ◌≡◌, List, ◌++◌, length, take, take_at}
use Rattle.segment.specs.declared.Segment.{Segment}
use Rattle.entries.specs.Entries.{entry_profiles}
use Rattle.entries.proofs.Laws.{entry_runs}
use Rattle.points.specs.declared.Points.{Points}
use Rattle.point_filling.specs.Steps.{FillFits, EachFits}

module _ (made rest : List ℕ) {s : Segment} (whole : length made ≡ 3 * s.cycle) where
  pub discharging : {ps : Points} {out : List ℕ} → FillFits s ps out → (array : List ℕ) → made ≡ entry_profiles s array →
      EachFits s ps (take (3 * s.cycle) (made ++ rest)) out
  discharging h array is =
      rw (take_at made rest (3 * s.cycle) whole)
      (record {
        discharged = record {
          entries = rw is (entry_runs s array);
          long = omega (arith, whole);
        };
        fill = h;
      })

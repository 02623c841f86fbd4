-- The calls on a record with request 4's rule undone: capacity cut to whole veh/h (`cut_`), all else as it stands. Nothing calls these: the
-- theorems compare with them.
use Rattle.std.specs.Prelude.{ℕ, ◌*◌, ◌/◌, min, ◌||◌, not, ◌≡◌, List, length, Result, Ok, Err}
use Rattle.refusal.specs.declared.Refusal.TheVariants.{NoVolume, Unserved}
use Rattle.refusal.specs.Refusal.{Or, need, and_then}
use Rattle.octets.specs.Octets.{word4}
use Rattle.movements.specs.declared.Signalised.{Signalised}
use Rattle.movements.specs.PerMovement.{Counts, Seeds}
use Rattle.movements.specs.Movements.{flow_units}
use Rattle.segment.specs.declared.Entry.{Entry}
use Rattle.segment.specs.declared.Segment.{Segment}
use Rattle.segment.specs.Layout.{number_at}
use Rattle.segment.specs.Segment.{segment_of}
use Rattle.balance_volumes.specs.Volumes.{exit_floats, proportions, destination_volumes}
use Rattle.balance.specs.declared.Balance.{Balance}
use Rattle.balance.specs.Settling.{round_limit, settle}
use Rattle.balance_refusals.specs.Refusals.{no_volume, any_unserved_entry, any_unserved_exit}
use Rattle.balance_decision.specs.declared.Decision.{Decision}
use Rattle.balance_decision.specs.declared.Unworked.{Unworked}
use Rattle.balance_decision.specs.declared.Unworked.TheVariants.{Refused}
use Rattle.balance_decision.specs.Unworked.{work_on}
use Rattle.balance_decision.specs.Decision.{settled_to}
use Rattle.platoon.specs.Discharge.{profile_of}
use Rattle.entries.specs.Entries.{entry_profiles}
use Rattle.propagation.specs.Propagation.{Profiles}
use Rattle.working.specs.Working.{accept_of, Called, called, by_decision}
use Rattle.points.specs.declared.Points.{Points}
use Rattle.point_working.specs.PointWorking.{PointCalled, point_called, with_points}
use Rattle.point_working.specs.PointWorking as point
use Rattle.sheet.specs.Sheet.{SheetCalled, sheet_by}
use Rattle.discharge.specs.Discharge as discharge

-- the whole part of saturation·g/c, in veh/h
abbrev pub cut_capacity : ℕ → Entry → ℕ
cut_capacity c e = e.saturation * e.green.steps / c

-- O: the smaller of it and the volume
abbrev pub cut_volume : ℕ → Entry → ℕ
cut_volume c e = min e.volume (cut_capacity c e)

-- access discharges its volume
unfoldable pub cut_volumes : Segment → Counts
cut_volumes s =
    record {
      left = cut_volume s.cycle s.left;
      through = cut_volume s.cycle s.through;
      right = cut_volume s.cycle s.right;
      access = s.access;
    }

-- 1000·O of each entry
unfoldable pub in_thousandths : Counts → Counts
in_thousandths o = record { left = flow_units o.left; through = flow_units o.through; right = flow_units o.right; access = flow_units o.access }

-- O is a whole number, made a float as an exit volume is
unfoldable pub cut_balanced : Counts → Counts → Seeds → Balance
cut_balanced o exits seeds =
    let origins = exit_floats o in
    settle round_limit origins (destination_volumes origins (exit_floats exits)) (proportions seeds)

-- 13 and 14 test O, and each row of pair flows adds to 1000·O
unfoldable pub cut_decision : Counts → Counts → Seeds → Result Decision Unworked
cut_decision o exits seeds =
    work_on
    (need NoVolume (not (no_volume o exits))
    (need Unserved (not (any_unserved_entry o exits seeds || any_unserved_exit o exits seeds))
    (Ok (cut_balanced o exits seeds))))
    (settled_to (in_thousandths o))

-- an entry's profile at O veh/h: a cycle carries 1000·O·C
abbrev pub profile_at : ℕ → Entry → ℕ → List ℕ
profile_at c e o = profile_of c e.green e.saturation e.arriving (flow_units o)

-- the entry that brings no more than O: it discharges 1000·O, and its profile is the one at O (proofs/Cut.antt, `cut_entry_discharge` and
-- `cut_profile`, of metered entries too)
abbrev pub cut_entry : ℕ → Entry → Entry
cut_entry c e = record { volume = cut_volume c e; saturation = e.saturation; green = e.green; arriving = e.arriving }

-- a record of such entries, so that the profiles are filled from O
unfoldable pub cut_segment : Segment → Segment
cut_segment s =
    record {
      cycle = s.cycle;
      running = s.running;
      headway = s.headway;
      left = cut_entry s.cycle s.left;
      through = cut_entry s.cycle s.through;
      right = cut_entry s.cycle s.right;
      access = s.access;
      exits = s.exits;
      downstream = s.downstream;
      seeds = s.seeds;
    }

-- what is accepted is decided and filled from O
abbrev pub cut_worked : Segment → Profiles → Called
cut_worked s p = by_decision (cut_segment s) (cut_decision (cut_volumes s) s.exits s.seeds) p

abbrev pub cut_by_record : Or Segment → Profiles → Called
cut_by_record (Err refusal) p = called (Err (Refused refusal)) p
cut_by_record (Ok s) p = cut_worked s p

-- the working: the same refusals of the record and of the profiles' lengths
unfoldable pub cut_call_of : List ℕ → Profiles → Called
cut_call_of l p = cut_by_record (accept_of l p) p

-- with points: the same refusals likewise, and what passes each point is filled from O
abbrev pub cut_points : Or Segment → Points → Profiles → List ℕ → PointCalled
cut_points (Err refusal) ps p q = point_called (Err (Refused refusal)) p q
cut_points (Ok s) ps p q = with_points (cut_segment s) ps (cut_worked s p) q

unfoldable pub cut_point_call_of : List ℕ → Points → Profiles → List ℕ → PointCalled
cut_point_call_of l ps p q = cut_points (point.accept_of l ps p (length q)) ps p q

-- the sheet of that working
abbrev pub cut_sheet_call_of : List ℕ → Profiles → List ℕ → SheetCalled
cut_sheet_call_of l p page = sheet_by (word4 l number_at) (segment_of l).cycle (cut_call_of l p) p page

-- the discharge: 1000 times each O where it answered O, and the profiles at O
abbrev pub cut_volumes_after : Or Segment → Or (Signalised ℕ)
cut_volumes_after x =
    and_then x
    (λ s.
    Ok (record {
      left = flow_units (cut_volume s.cycle s.left);
      through = flow_units (cut_volume s.cycle s.through);
      right = flow_units (cut_volume s.cycle s.right);
    }))

abbrev pub cut_profile_after : Or Segment → List ℕ → List ℕ
cut_profile_after (Err refusal) p = p
cut_profile_after (Ok s) p = entry_profiles (cut_segment s) p

-- the discharge as called, read so
pub record CutDischarge (l p : List ℕ) (r : Or (Signalised ℕ)) (p' : List ℕ) : Type 0 where
  pub answer : r ≡ cut_volumes_after (discharge.accept_of l (length p))
  pub profile : p' ≡ cut_profile_after (discharge.accept_of l (length p)) p

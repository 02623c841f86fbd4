-- Laws of specs/Unmetered.antt: a record whose signalised entries' volumes are at or under the capacity in whole veh/h keeps every figure.
use Rattle.std.specs.Prelude.{ℕ, ◌*◌, ◌/◌, ◌≤◌, ◌<◌, ◌≡◌, refl, List, length, Result, Ok, Err}
use Rattle.std.proofs.Common.{arith, ap, sym, ◌∙◌, le-div_iff_mul-le}
use Rattle.refusal.specs.Refusal.{Or, Test}
use Rattle.octets.specs.Octets.{word4}
use Rattle.movements.specs.declared.Signalised.{Signalised}
use Rattle.movements.specs.Movements.{flow_units}
use Rattle.segment.specs.declared.Entry.{Entry}
use Rattle.segment.specs.declared.Segment.{Segment}
use Rattle.segment.specs.Layout.{number_at}
use Rattle.segment.specs.Segment.{segment_of}
use Rattle.ranges.specs.Ranges.{Ranges}
use Rattle.validation.specs.Accepted.{Accepted}
use Rattle.validation.specs.Accepting.{accept_with}
use Rattle.validation.proofs.Accepting.{accept_passed}
use Rattle.metering.specs.Metering.{capacity, discharge_volume, discharge_volumes}
use Rattle.discharge.specs.Discharge.{volumes_after, profile_after, Calls}
use Rattle.discharge.specs.Discharge as discharge
use Rattle.balance_decision.specs.declared.Unworked.{Unworked}
use Rattle.propagation.specs.Propagation.{Profiles}
use Rattle.working_outcome.specs.declared.Working.{Working}
use Rattle.working.specs.Working.{accept_of, decision_for, Called, called, by_decision, call_of, Works}
use Rattle.points.specs.declared.Points.{Points}
use Rattle.point_working.specs.declared.PointWorking.{PointWorking}
use Rattle.point_working.specs.PointWorking.{point_called, point_call_of, PointWorks}
use Rattle.point_working.specs.PointWorking as point
use Rattle.sheet.specs.Sheet.{sheet_called, sheet_by, sheet_call_of, Sheets}
use Rattle.unmetered.specs.Cut.{cut_volume, cut_volumes, in_thousandths, cut_decision, cut_segment, cut_worked}
use Rattle.unmetered.specs.Cut.{cut_by_record, cut_call_of, cut_points, cut_point_call_of, cut_sheet_call_of}
use Rattle.unmetered.specs.Cut.{cut_volumes_after, cut_profile_after, CutDischarge}
use Rattle.unmetered.specs.Unmetered.{EntryUnmetered, Unmetered}
use Rattle.unmetered.proofs.Volumes.{WithinRange, cut_decided}
use Rattle.unmetered.proofs.Cut.{cut_capacity_le, cut_segment_discharge}

module _ (c : ℕ) (e : Entry) where
  -- such an entry brings its O
  same_volume : EntryUnmetered c e → cut_volume c e ≡ e.volume
  same_volume u = omega arith

  module _ (pos : 0 < c) where
    -- its volume is all discharged, and of no other entry is it
    pub unmetered_entry :
        (discharge_volume c e ≡ flow_units e.volume → EntryUnmetered c e) × (EntryUnmetered c e → discharge_volume c e ≡ flow_units e.volume)
    unfolding discharge_volume capacity
    unmetered_entry = (only, λ u. omega (arith, u, cut_capacity_le c e pos))
      where
        only : discharge_volume c e ≡ flow_units e.volume → EntryUnmetered c e
        only h =
            let all = flow_units e.saturation * e.green.steps in
            let most : flow_units e.volume ≤ all / c = omega (arith, h) in
            let served = (le-div_iff_mul-le {k = c} {x = flow_units e.volume} {y = all} pos).0 most in
            (le-div_iff_mul-le {k = c} {x = e.volume} {y = e.saturation * e.green.steps} pos).1 (omega (arith, served))

    entry_discharge_cut : EntryUnmetered c e → discharge_volume c e ≡ flow_units (cut_volume c e)
    entry_discharge_cut u = unmetered_entry.1 u ∙ ap flow_units (sym (same_volume u))

-- ---- an accepted record

module _ (s : Segment) (u : Unmetered s) where
  -- its O is its volumes
  same_record : cut_segment s ≡ s
  unfolding cut_segment
  same_record = rw (same_volume s.cycle s.left u.left, same_volume s.cycle s.through u.through, same_volume s.cycle s.right u.right)

  module _ (r : Ranges s) where
    -- what it discharges: 1000 times the O of whole veh/h
    pub unmetered_volumes : discharge_volumes s ≡ in_thousandths (cut_volumes s)
    unmetered_volumes = ap discharge_volumes (sym same_record) ∙ cut_segment_discharge s (omega (arith, r.cycle))

    within_range : WithinRange (cut_volumes s)
    unfolding cut_volumes
    within_range =
        record {
          left = omega (arith, r.left.volume);
          through = omega (arith, r.through.volume);
          right = omega (arith, r.right.volume);
          access = r.access;
        }

    -- what its volumes decide
    same_decision : decision_for s ≡ cut_decision (cut_volumes s) s.exits s.seeds
    unfolding decision_for
    same_decision = rw unmetered_volumes (cut_decided (cut_volumes s) s.exits s.seeds within_range)

    same_volumes : volumes_after (Ok s) ≡ cut_volumes_after (Ok s)
    same_volumes =
        let pos : 0 < s.cycle = omega (arith, r.cycle) in
        rw (entry_discharge_cut s.cycle s.left pos u.left, entry_discharge_cut s.cycle s.through pos u.through, entry_discharge_cut s.cycle s.right pos u.right)

-- the record of a call, whatever else it tests
module _ (l : List ℕ) (tests : Segment → List Test) (s : Segment) (e : accept_with l tests ≡ Ok s) (u : Unmetered (segment_of l)) where
  passed : Accepted l s
  passed = (accept_passed l tests s e).0

  unmetered : Unmetered s
  unmetered = rw (← passed.is) at u

  same_work : (p : Profiles) → by_decision s (decision_for s) p ≡ cut_worked s p
  same_work p = rw (same_record s unmetered, same_decision s unmetered passed.ranges)

-- ---- the calls as called

-- the working
module _ (l : List ℕ) (p : Profiles) (u : Unmetered (segment_of l)) where
  same_call : call_of l p ≡ cut_call_of l p
  unfolding call_of cut_call_of
  same_call = go (accept_of l p) refl
    where
      go : (x : Or Segment) → accept_of l p ≡ x → call_of l p ≡ cut_by_record x p
      go (Err n) e = rw e
      go (Ok s) e = rw e (same_work l _ s e u p)

  -- its answer and all three profiles
  pub unmetered_keeps : (r : Result Working Unworked) (p' : Profiles) → Works l p r p' → called r p' ≡ cut_call_of l p
  unmetered_keeps r p' w = w.is ∙ same_call

  -- the sheet's answer, all three profiles and the page buffer
  pub unmetered_sheet_keeps : (page : List ℕ) (r : Result Working Unworked) (p' : Profiles) (page' : List ℕ) → Sheets l p page r p' page' →
      sheet_called r p' page' ≡ cut_sheet_call_of l p page
  unfolding sheet_call_of
  unmetered_sheet_keeps page r p' page' w = w.is ∙ ap (λ (c : Called). sheet_by (word4 l number_at) (segment_of l).cycle c p page) same_call

-- with points: the answer and all four profiles
pub unmetered_points_keep : (l : List ℕ) (ps : Points) (p : Profiles) (q : List ℕ) (r : Result PointWorking Unworked) (p' : Profiles) (q' : List ℕ) →
    PointWorks l ps p q r p' q' → Unmetered (segment_of l) → point_called r p' q' ≡ cut_point_call_of l ps p q
unfolding point_call_of cut_point_call_of
unmetered_points_keep l ps p q r p' q' w u = w.is ∙ go (point.accept_of l ps p (length q)) refl
  where
    go : (x : Or Segment) → point.accept_of l ps p (length q) ≡ x → point_call_of l ps p q ≡ cut_points x ps p q
    go (Err n) e = rw e
    go (Ok s) e = rw (e, same_work l _ s e u p, same_record s (unmetered l _ s e u))

-- the discharge: its answer and the profile
pub unmetered_discharge_keeps : (l p : List ℕ) (r : Or (Signalised ℕ)) (p' : List ℕ) → Calls l p r p' → Unmetered (segment_of l) → CutDischarge l p r p'
unmetered_discharge_keeps l p r p' k u =
    let same = go (discharge.accept_of l (length p)) refl in
    record { answer = k.answer ∙ same.0; profile = k.profile ∙ same.1 }
  where
    go : (x : Or Segment) → discharge.accept_of l (length p) ≡ x → (volumes_after x ≡ cut_volumes_after x) × (profile_after x p ≡ cut_profile_after x p)
    go (Err n) e = (refl, refl)
    go (Ok s) e =
        let us = unmetered l _ s e u in
        (same_volumes s us (passed l _ s e u).ranges, rw (same_record s us))

-- Laws of specs/Cut.antt: of every record, metered or not, a record of entries that bring no more than O discharges 1000·O.
use Rattle.std.specs.Prelude.{ℕ, ◌*◌, ◌/◌, ◌≤◌, ◌<◌, ◌≡◌}
use Rattle.std.proofs.Common.{arith, div-mul-le_self, le-div_iff_mul-le}
use Rattle.movements.specs.Movements.{flow_units}
use Rattle.segment.specs.declared.Entry.{Entry}
use Rattle.segment.specs.declared.Segment.{Segment}
use Rattle.metering.specs.Metering.{capacity, discharge_volume, discharge_volumes}
use Rattle.entries.specs.Entries.{entry_profile}
use Rattle.unmetered.specs.Cut.{cut_capacity, cut_volume, cut_volumes, in_thousandths, profile_at, cut_entry, cut_segment}

module _ (c : ℕ) (e : Entry) (pos : 0 < c) where
  -- the whole capacity is no more than the capacity
  pub cut_capacity_le : flow_units (cut_capacity c e) ≤ capacity e.saturation e.green.steps c
  unfolding capacity
  cut_capacity_le =
      let all = e.saturation * e.green.steps in
      let q = all / c in
      (le-div_iff_mul-le {k = c} {x = flow_units q} {y = flow_units e.saturation * e.green.steps} pos).1 (omega (arith, div-mul-le_self all c))

  pub cut_entry_discharge : discharge_volume c (cut_entry c e) ≡ flow_units (cut_volume c e)
  unfolding discharge_volume
  cut_entry_discharge = omega (arith, cut_capacity_le)

  -- so filling from it is the filling at O
  pub cut_profile : entry_profile c (cut_entry c e) ≡ profile_at c e (cut_volume c e)
  unfolding entry_profile
  cut_profile = rw cut_entry_discharge

pub cut_segment_discharge : (s : Segment) → 0 < s.cycle → discharge_volumes (cut_segment s) ≡ in_thousandths (cut_volumes s)
unfolding discharge_volumes cut_segment cut_volumes in_thousandths
cut_segment_discharge s pos = rw (cut_entry_discharge s.cycle s.left pos, cut_entry_discharge s.cycle s.through pos, cut_entry_discharge s.cycle s.right pos)

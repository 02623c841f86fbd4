-- Laws of specs/Metering.antt: Metering, item 1: what each entry discharges, in thousandths of veh/h.
use Rattle.std.specs.Prelude.{ℕ, ◌*◌, ◌/◌, ◌≤◌, ◌<◌}
use Rattle.std.proofs.Common.{arith, div-mul-le_self, mul-le-mul_right, le-div_iff_mul-le}
use Rattle.movements.specs.Movements.{flow_units}
use Rattle.segment.specs.declared.Entry.{Entry}
use Rattle.metering.specs.Metering.{capacity, discharge_volume}

-- no more than the green can serve in a cycle, and no more than the volume
pub discharge_volume_served : (c : ℕ) (e : Entry) → discharge_volume c e * c ≤ flow_units e.saturation * e.green.steps
unfolding discharge_volume capacity
discharge_volume_served c e =
    let all = flow_units e.saturation * e.green.steps in
    let q = all / c in
    let m : discharge_volume c e ≤ q = omega arith in
    omega (arith, mul-le-mul_right c m, div-mul-le_self all c)

pub discharge_volume_entry : (c : ℕ) (e : Entry) → discharge_volume c e ≤ flow_units e.volume
unfolding discharge_volume
discharge_volume_entry c e = omega arith

-- and no less than these two allow
pub discharge_volume_most : (c : ℕ) (e : Entry) (n : ℕ) → 0 < c → n * c ≤ flow_units e.saturation * e.green.steps → n ≤ flow_units e.volume →
    n ≤ discharge_volume c e
unfolding discharge_volume capacity
discharge_volume_most c e n pos served small =
    let q = flow_units e.saturation * e.green.steps / c in
    let most : n ≤ q = (le-div_iff_mul-le {k = c} {x = n} {y = flow_units e.saturation * e.green.steps} pos).1 served in
    omega (arith, most)

-- Laws of specs/Volumes.antt: a discharge in thousandths is n/1000 veh/h, rounded once; one of whole veh/h is the float of that whole number.
use Rattle.std.specs.Prelude.{ℕ, ◌*◌, ◌^◌, ◌≤◌, false, ◌≡◌, Float, pos}
use Rattle.std.proofs.Common.{arith, ap, ◌∙◌}
use Rattle.std.specs.Float.{nan, inf, fin, binary64}
use Rattle.std.specs.Float.Ieee.{up, down, prec, of_bits, of_int, div, round}
use lib.Ieee.Exact.{HasValue}
use lib.Ieee.Back.{round_whole}
use lib.Ieee.Fits.{down_pos}
use lib.Ieee.Scale.{round_same}
use Rattle.movements.specs.Movements.{flow_units}
use Rattle.balance_flows.specs.Flows.{thousand, over}
use Rattle.balance_volumes.specs.Volumes.{discharge_float, exit_float}

-- what is n in size, over 1000
over_thousand : (x : Float) (n : ℕ) → HasValue x false n 1 → over x thousand ≡ round binary64 false n 1000
unfolding of_bits div
over_thousand nan n v = absurd v
over_thousand (inf s) n v = absurd v
over_thousand (fin s m e) n v =
    let same : m * up e * 1 * 1000 ≡ n * (1000 * down e) = omega (arith, ap (λ (z : ℕ). z * 1000) (v.1)) in
    rw (v.0) (round_same binary64 false (m * up e * 1) (1000 * down e) n 1000 (omega (arith, down_pos e)) (omega arith) same)

pub discharge_float_is : (n : ℕ) → n ≤ 2 ^ prec binary64 → discharge_float n ≡ round binary64 false n 1000
unfolding of_int
discharge_float_is n fits = over_thousand (of_int binary64 (pos n)) n (round_whole binary64 false n fits)

pub discharge_float_whole : (v : ℕ) → flow_units v ≤ 2 ^ prec binary64 → discharge_float (flow_units v) ≡ exit_float v
unfolding of_int
discharge_float_whole v fits =
    discharge_float_is (flow_units v) fits ∙ round_same binary64 false (flow_units v) 1000 v 1 (omega arith) (omega arith) (omega arith)

-- Discharges and exit volumes as floats of veh/h, seeds as proportions: item 2 of "Metering and shares".
use Rattle.std.specs.Prelude.{ℕ, pos, Float, ◌≡◌, refl}
use Rattle.std.specs.Float.{binary64}
use Rattle.std.specs.Float.Ieee.{of_bits, of_int}
use Rattle.movements.specs.PerMovement.{Counts, Seeds}
use Rattle.balance_flows.specs.Flows.{Flows, FlowTable, thousand, times, over, flows_of, total}

-- O in veh/h: the thousandths divided once by 1000
abbrev pub discharge_float : ℕ → Float
discharge_float n = over (of_int binary64 (pos n)) thousand

-- an exit volume
abbrev pub exit_float : ℕ → Float
exit_float n = of_int binary64 (pos n)

abbrev pub hundred : Float
hundred = of_bits binary64 0x4059_0000_0000_0000

pub hundred_is : hundred ≡ of_int binary64 (pos 100)
unfolding of_bits of_int
hundred_is = refl

-- p of a seed
abbrev pub proportion : ℕ → Float
proportion hundredths = over (of_int binary64 (pos hundredths)) hundred

unfoldable pub discharge_floats : Counts → Flows
discharge_floats x = flows_of (discharge_float x.left) (discharge_float x.through) (discharge_float x.right) (discharge_float x.access)

unfoldable pub exit_floats : Counts → Flows
exit_floats x = flows_of (exit_float x.left) (exit_float x.through) (exit_float x.right) (exit_float x.access)

unfoldable pub proportion_row : Counts → Flows
proportion_row x = flows_of (proportion x.left) (proportion x.through) (proportion x.right) (proportion x.access)

unfoldable pub proportions : Seeds → FlowTable
proportions x =
    record { left = proportion_row x.left; through = proportion_row x.through; right = proportion_row x.right; access = proportion_row x.access }

-- D = (exit volume · total discharge) / total exit volume
abbrev pub destination_volume : Float → Float → Float → Float
destination_volume exit discharge exits = over (times exit discharge) exits

unfoldable pub destination_volumes : Flows → Flows → Flows
destination_volumes o exits =
    flows_of
    (destination_volume exits.left (total o) (total exits))
    (destination_volume exits.through (total o) (total exits))
    (destination_volume exits.right (total o) (total exits))
    (destination_volume exits.access (total o) (total exits))

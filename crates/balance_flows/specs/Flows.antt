-- Four 64-bit floats, one for each movement. Each operation rounds once; sums run left, through, right, access.
use Rattle.std.specs.Prelude.{Bool, cond, ◌&&◌, pos, ◌≡◌, refl, Float}
use Rattle.std.specs.Float.{binary64}
use Rattle.std.specs.Float.Ieee.{of_bits, of_int, add, mul, div, eq}
use Rattle.std.specs.Float.Ieee.Scale.{finite}
use Rattle.movements.specs.declared.PerMovement.{PerMovement}

-- one figure for each movement; a row of four exits for each entry
abbrev pub Flows : Type 0
Flows = PerMovement Float

abbrev pub FlowTable : Type 0
FlowTable = PerMovement Flows

abbrev pub zero64 : Float
zero64 = of_bits binary64 0

-- the flow units of one vehicle an hour in a step
abbrev pub thousand : Float
thousand = of_bits binary64 0x408f_4000_0000_0000

pub thousand_is : thousand ≡ of_int binary64 (pos 1000)
unfolding of_bits of_int
thousand_is = refl

abbrev pub plus : Float → Float → Float
plus x y = add binary64 x y

abbrev pub times : Float → Float → Float
times x y = mul binary64 x y

abbrev pub over : Float → Float → Float
over x y = div binary64 x y

-- none of the four is an infinity or a NaN
unfoldable pub all_finite : Flows → Bool
all_finite x = ((finite x.left && finite x.through) && finite x.right) && finite x.access

unfoldable pub table_finite : FlowTable → Bool
table_finite x = ((all_finite x.left && all_finite x.through) && all_finite x.right) && all_finite x.access

abbrev pub flows_of : Float → Float → Float → Float → Flows
flows_of l t r a = record { left = l; through = t; right = r; access = a }

abbrev pub no_flows : Flows
no_flows = flows_of zero64 zero64 zero64 zero64

abbrev pub no_table : FlowTable
no_table = record { left = no_flows; through = no_flows; right = no_flows; access = no_flows }

-- the sum of the four
abbrev pub total : Flows → Float
total x = plus (plus (plus x.left x.through) x.right) x.access

-- the sum of the four products
abbrev pub weighted : Flows → Flows → Float
weighted x y = total (flows_of (times x.left y.left) (times x.through y.through) (times x.right y.right) (times x.access y.access))

-- n over m, or 0 where n is 0
abbrev pub quotient : Float → Float → Float
quotient n m = cond (eq n zero64) zero64 (over n m)

unfoldable pub quotients : Flows → Flows → Flows
quotients n m = flows_of (quotient n.left m.left) (quotient n.through m.through) (quotient n.right m.right) (quotient n.access m.access)

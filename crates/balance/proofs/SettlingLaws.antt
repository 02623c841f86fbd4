-- Laws of specs/Settling.antt: The settling and its cells: items 4 and 5 of "Metering and shares".
use Rattle.std.specs.Prelude.{false, ◌≡◌, refl}
use Rattle.std.specs.Float.{binary64}
use Rattle.std.specs.Float.Ieee.{of_bits, round}
use Rattle.balance.specs.Settling.{threshold}

-- it is 1/100, rounded once
pub threshold_is : threshold ≡ round binary64 false 1 100
unfolding of_bits round
threshold_is = refl

-- Laws of specs/Laws.antt: The places in front of the eight as a loop meets them, and what the test says of each point.
use Rattle.std.specs.Prelude.{◌≡◌, []}
use Rattle.points.specs.declared.Points.{Points}
use Rattle.points.specs.Points.{given}

pub none_given : (ps : Points) → ps.count ≡ 0 → given ps ≡ []
unfolding given
none_given ps none = rw none

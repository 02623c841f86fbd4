-- A record that passed the tests.
use Rattle.std.specs.Prelude.{ℕ, ◌≡◌, List, length}
use Rattle.segment.specs.declared.Segment.{Segment}
use Rattle.segment.specs.Layout.{size}
use Rattle.segment.specs.Segment.{segment_of}
use Rattle.ranges.specs.Ranges.{Ranges}

-- a record that is accepted has the bytes that were tested, in their ranges
pub record Accepted (l : List ℕ) (s : Segment) : Type 0 where
  pub sized : length l ≡ size
  pub is : s ≡ segment_of l
  pub ranges : Ranges s

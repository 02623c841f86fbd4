-- The refusals 6 to 12, which test every field of a record but its number.
use Rattle.std.specs.Prelude.{ℕ, List, [], ◌∷◌, eqb, length}
use Rattle.refusal.specs.declared.Refusal.TheVariants.{Record, Cycle, RunningTime, Headway, Volume, GreenTime, SeedRow}
use Rattle.refusal.specs.Refusal.{Or, Test, test, first_failing}
use Rattle.segment.specs.declared.Segment.{Segment}
use Rattle.segment.specs.Layout.{size}
use Rattle.segment.specs.Segment.{segment_of}
use Rattle.ranges.specs.Tests.{cycle_fits, running_fits, headway_fits, volumes_fit, greens_fit, seeds_add}

-- the place "card": a record of so many bytes whose fields lie in their ranges
abbrev pub record_tests : List ℕ → Segment → List Test
record_tests l s =
    test Record (eqb (length l) size)
    ∷ test Cycle (cycle_fits s)
    ∷ test RunningTime (running_fits s)
    ∷ test Headway (headway_fits s)
    ∷ test Volume (volumes_fit s)
    ∷ test GreenTime (greens_fit s)
    ∷ test SeedRow (seeds_add s.seeds)
    ∷ []

unfoldable pub check_of : List ℕ → Or Segment
check_of l = first_failing (record_tests l (segment_of l)) (segment_of l)

-- Laws of specs/Ranges.antt: What the tests of a record say of its fields, as facts.
use Rattle.std.specs.Prelude.{ℕ, Bool, true, ◌&&◌, ◌≡◌}
use Rattle.std.proofs.Common.{leb-true, ltb-true}
use Rattle.refusal.specs.Refusal.{both}
use Rattle.signal.specs.declared.Green.{Green}
use Rattle.signal.specs.Greens.{GreenFits}
use Rattle.segment.specs.declared.Entry.{Entry}
use Rattle.segment.specs.declared.Segment.{Segment}
use Rattle.ranges.specs.Tests.{cycle_fits, running_fits, headway_fits, entry_fits, volumes_fit, green_fits, greens_fit, seeds_add}
use Rattle.ranges.specs.Ranges.{EntryRanges, Ranges}

-- each test of several in one, and what it says of the numbers
first : (a b : Bool) → (a && b) ≡ true → a ≡ true
first a b e = (both a b e).0

last : (a b : Bool) → (a && b) ≡ true → b ≡ true
last a b e = (both a b e).1

ruleset tests = (first, last, leb-true, ltb-true)

green_range : (c : ℕ) (g : Green) → green_fits c g ≡ true → GreenFits c g
green_range c g e = record { start = search tests; steps = search tests }

entry_range : (c : ℕ) (e : Entry) → entry_fits e ≡ true → green_fits c e.green ≡ true → EntryRanges c e
entry_range c e h g = record { volume = search tests; saturation = search tests; arriving = search tests; green = green_range c e.green g }

pub tests_ranges : (s : Segment) → cycle_fits s ≡ true → running_fits s ≡ true → headway_fits s ≡ true → volumes_fit s ≡ true → greens_fit s ≡ true →
    seeds_add s.seeds ≡ true → Ranges s
unfolding cycle_fits running_fits headway_fits volumes_fit greens_fit
tests_ranges s h7 h8 h9 h10 h11 h12 =
    record {
      cycle = search tests;
      running = search tests;
      headway = search tests;
      left = entry_range s.cycle s.left (search tests) (search tests);
      through = entry_range s.cycle s.through (search tests) (search tests);
      right = entry_range s.cycle s.right (search tests) (search tests);
      access = search tests;
      exits = search tests;
      left_green = green_range s.cycle s.downstream.left (search tests);
      through_green = green_range s.cycle s.downstream.through (search tests);
      right_green = green_range s.cycle s.downstream.right (search tests);
      seeds = h12;
    }

-- Laws of specs/Exhibit.antt: Sixteen zero seeds are never refused with 12: Exhibit 30-2 stands in for them, and each of its rows adds to 100.
use Rattle.std.specs.Prelude.{ℕ, ◌+◌, ◌<◌, true, not, ◌||◌, ◌≡◌, List, eqb, get_or, Err}
use Rattle.std.proofs.Common.{arith, sym, ◌∙◌}
use Rattle.refusal.specs.declared.Refusal.TheVariants.{SeedRow}
use Rattle.refusal.specs.Refusal.{Or, false_true, refused_number}
use Rattle.segment.specs.declared.Segment.{Segment}
use Rattle.segment.specs.Layout.{seeds_at, row_of, table_of}
use Rattle.segment.specs.Segment.{zero_row, zero_seeds, seeds_of, segment_of}
use Rattle.ranges.specs.Tests.{seeds_add, exhibit_adds}
use Rattle.validation.specs.Validation.{record_tests, check_of}
use Rattle.validation.specs.Exhibit.{ZeroSeeds}

row_zero : (l : List ℕ) (at : ℕ) → ((i : ℕ) → i < 4 → get_or l (at + i) 0 ≡ 0) → zero_row (row_of l at) ≡ true
unfolding row_of
row_zero l at h =
    let z : at + 0 ≡ at = omega arith in
    rw (rw z at (h 0 (omega arith)), h 1 (omega arith), h 2 (omega arith), h 3 (omega arith))

table_zero : (l : List ℕ) → ZeroSeeds l → zero_seeds (table_of l seeds_at) ≡ true
unfolding zero_seeds table_of
table_zero l z =
    rw (
      row_zero l seeds_at (λ i h. z.zero i (omega arith)),
      row_zero l (seeds_at + 4) (λ i h. later 4 i (z.zero (4 + i) (omega arith))),
      row_zero l (seeds_at + 8) (λ i h. later 8 i (z.zero (8 + i) (omega arith))),
      row_zero l (seeds_at + 12) (λ i h. later 12 i (z.zero (12 + i) (omega arith))),
    )
  where
    later : (k i : ℕ) → get_or l (seeds_at + (k + i)) 0 ≡ 0 → get_or l (seeds_at + k + i) 0 ≡ 0
    later k i e = let same : seeds_at + k + i ≡ seeds_at + (k + i) = omega arith in rw same e

seeds_add_lem : (l : List ℕ) → ZeroSeeds l → seeds_add (segment_of l).seeds ≡ true
unfolding segment_of seeds_of
seeds_add_lem l z = rw (table_zero l z) exhibit_adds

-- whatever the other fields, the check refuses by another number or not at all: each test has another number, or holds
pub exhibit_stands : (l : List ℕ) → ZeroSeeds l → (r : Or Segment) → r ≡ check_of l → r ≡ Err SeedRow → ⊥
unfolding check_of
exhibit_stands l z r e q =
    false_true (refused_number (λ n holds. not (eqb n 12) || holds) (record_tests l (segment_of l)) (segment_of l) SeedRow (rw (seeds_add_lem l z)) (sym e ∙ q))

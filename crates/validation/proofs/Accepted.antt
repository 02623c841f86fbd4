-- Laws of specs/Accepted.antt: A record that passed the tests.
use Rattle.std.specs.Prelude.{ℕ, ◌≡◌, List, length, Ok}
use Rattle.std.proofs.Common.{sym, eqb-true}
use Rattle.refusal.specs.Refusal.{all_hold, all_answer}
use Rattle.segment.specs.declared.Segment.{Segment}
use Rattle.segment.specs.Layout.{size}
use Rattle.segment.specs.Segment.{segment_of}
use Rattle.ranges.proofs.Ranges.{tests_ranges}
use Rattle.validation.specs.Validation.{record_tests, check_of}
use Rattle.validation.specs.Accepted.{Accepted}

pub accepted : (l : List ℕ) (s : Segment) → check_of l ≡ Ok s → Accepted l s
unfolding check_of
accepted l s e =
    let is = all_answer (record_tests l (segment_of l)) (segment_of l) s e in
    let holds = all_hold (record_tests l (segment_of l)) (segment_of l) s e in
    record {
      sized = eqb-true (length l) size (holds 6);
      is = sym is;
      ranges = rw is at (tests_ranges (segment_of l) (holds 7) (holds 8) (holds 9) (holds 10) (holds 11) (holds 12));
    }

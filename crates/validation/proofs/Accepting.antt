-- Laws of specs/Accepting.antt: A call on a record: the refusals of the record, then those of the call's own tests.
use Rattle.std.specs.Prelude.{ℕ, ◌≤◌, Bool, ◌&&◌, ◌≡◌, List, leb, Ok, Err}
use Rattle.std.proofs.Math.Bool.{true, false}
use Rattle.std.proofs.Math.Path.{refl}
use Rattle.std.proofs.Common.{sym, ◌∙◌, leb-true}
use Rattle.refusal.specs.declared.Refusal.{Refusal}
use Rattle.refusal.specs.Refusal.{number, Or, ok_refused, and_then, both, Test, first_failing, holds_of, all_hold, all_answer, each, refused_number}
use Rattle.segment.specs.Segment.{segment_of}
use Rattle.segment.specs.declared.Segment.{Segment}
use Rattle.validation.specs.Validation.{record_tests, check_of}
use Rattle.validation.specs.Accepted.{Accepted}
use Rattle.validation.proofs.Accepted.{accepted}
use Rattle.validation.specs.Accepting.{accept_with}

-- the record's refusals are 6 to 12: there is no other
pub check_numbers : (l : List ℕ) (r : Refusal) → check_of l ≡ Err r → (6 ≤ number r) × (number r ≤ 12)
unfolding check_of
check_numbers l r e =
    let k = both (leb 6 (number r)) (leb (number r) 12)
    (refused_number (λ m holds. leb 6 m && leb m 12) (record_tests l (segment_of l)) (segment_of l) r refl e) in
    (leb-true 6 (number r) k.0, leb-true (number r) 12 k.1)

module _ (l : List ℕ) (own : Segment → List Test) where
  -- what is accepted passed every test
  pub accept_passed : (s : Segment) → accept_with l own ≡ Ok s → Accepted l s × ((n : ℕ) → holds_of n (own s) ≡ true)
  unfolding accept_with
  accept_passed s e = go (check_of l) refl e
    where
      go : (x : Or Segment) → check_of l ≡ x → and_then x (λ t. first_failing (own t) t) ≡ Ok s → Accepted l s × ((n : ℕ) → holds_of n (own s) ≡ true)
      go (Err m) q f = ok_refused (sym f)
      go (Ok t) q f =
          let same = all_answer (own t) t s f in
          (accepted l s (q ∙ rw same), rw same at (all_hold (own t) t s f))

  -- what is so of every test of the record and of the call is so of the number of a refusal: there is no other
  pub accept_numbers : (f : ℕ → Bool → Bool) → each f (record_tests l (segment_of l)) ≡ true → ((s : Segment) → each f (own s) ≡ true) →
      (r : Refusal) → accept_with l own ≡ Err r → f (number r) false ≡ true
  unfolding accept_with check_of
  accept_numbers f of-record of-call r e = go (check_of l) refl e
    where
      go : (x : Or Segment) → check_of l ≡ x → and_then x (λ t. first_failing (own t) t) ≡ Err r → f (number r) false ≡ true
      go (Err m) q e = refused_number f (record_tests l (segment_of l)) (segment_of l) r of-record (q ∙ e)
      go (Ok t) q e = refused_number f (own t) t r (of-call t) e

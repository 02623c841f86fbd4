-- An archive that reads is the encoding of its records, and they are fit to be encoded.
use Rattle.std.specs.Prelude.{ℕ, zero, suc, ◌+◌, ◌*◌, ◌≤◌, ◌≡◌, true, List, [], ◌∷◌, ◌++◌, length, drop}
use Rattle.std.proofs.Common.{arith, ap, sym, ◌∙◌, append_assoc, eqb-true}
use Rattle.octets.specs.Octets.{word2, bytes2}
use Rattle.archive_format.specs.declared.Edition.{Edition}
use Rattle.archive_format.specs.Archive.{record_limit, title_limit, Filed, body, places, titled, rising}
use Rattle.archive_format.specs.Archive.{next_at, filed_from, runs}
use Rattle.archive_format.specs.Reading.{title_length, bytes_length, record_split, Ran, ran}
use Rattle.archive_format.specs.Words.{Bytes, word_split}

-- records of the size, with titles of 40 bytes at most
abbrev pub Shaped : ℕ → List Filed → Type 0
Shaped size [] = Unit {0}
Shaped size (f ∷ fs) = (length f.bytes ≡ size) × (length f.title ≤ title_limit) × Shaped size fs

-- a list that an archive of the edition can hold
pub record Fit (e : Edition) (fs : List Filed) : Type 0 where
  pub shaped : Shaped e.size fs
  pub titles : titled fs ≡ true
  pub risen : rising 0 fs ≡ true
  pub many : length fs ≤ record_limit

-- ---- an archive that runs is made of its records

pub body_laid : (size k : ℕ) (l : List ℕ) (t at q : ℕ) → t ≤ length l → runs size k l t at q ≡ true
    → drop at l ≡ body (filed_from size k l at) ++ drop t l
unfolding runs filed_from body
body_laid size zero l t at q h r = ap (λ (z : ℕ). drop z l) (eqb-true at t r)
body_laid size (suc k) l t at q h r =
    let m : Ran size k l t at q = ran r in
    let n : next_at size l at ≤ length l = omega arith in
    record_split size l at n ∙ rw (body_laid size k l t (next_at size l at) (q + 2) h m.on) (sym (simp (append_assoc, title_length size l at n)))

pub places_laid : (size k : ℕ) (l : List ℕ) (t at q : ℕ) → Bytes l → t ≤ length l → q + 2 * k ≤ length l → runs size k l t at q ≡ true
    → drop q l ≡ places size at (filed_from size k l at) ++ drop (q + 2 * k) l
unfolding filed_from places
places_laid size zero l t at q hb h s r = let e : q ≡ q + 2 * zero = omega arith in ap (λ (z : ℕ). drop z l) e
places_laid size (suc k) l t at q hb h s r =
    let m : Ran size k l t at q = ran r in
    let n : next_at size l at ≤ length l = omega arith in
    let e : q + 2 + 2 * k ≡ q + 2 * suc k = omega arith in
    word_split l q hb (omega arith)
    ∙ ap (λ (r : List ℕ). bytes2 (word2 l q) ++ r)
    (places_laid size k l t (next_at size l at) (q + 2) hb h (omega arith) m.on
    ∙ ap (λ (z : ℕ). places size (next_at size l at) (filed_from size k l (next_at size l at)) ++ drop z l) e)
    ∙ rw (m.placed, title_length size l at n)

pub shaped_laid : (size k : ℕ) (l : List ℕ) (t at q : ℕ) → t ≤ length l → runs size k l t at q ≡ true → Shaped size (filed_from size k l at)
unfolding filed_from
shaped_laid size zero l t at q h r = tt
shaped_laid size (suc k) l t at q h r =
    let m : Ran size k l t at q = ran r in
    let n : next_at size l at ≤ length l = omega arith in
    (bytes_length size l at n, rw (title_length size l at n) m.short, shaped_laid size k l t (next_at size l at) (q + 2) h m.on)

-- What finding means: the place found holds the record with the number, and its title is that record's.
use Rattle.std.specs.Prelude.{ℕ, zero, suc, ◌+◌, ◌*◌, ◌≤◌, ◌<◌, ◌≡◌, refl, Bool, true, false, cond, List, [], ◌∷◌, ◌++◌, eqb, ltb, length, Ok, Err}
use Rattle.std.proofs.Common.{arith, ap, ◌∙◌, ltb-true}
use Rattle.refusal.specs.declared.Refusal.{Refusal}
use Rattle.refusal.specs.declared.Refusal.TheVariants.{Record}
use Rattle.refusal.specs.Refusal.{Or, both, false_true}
use Rattle.octets.specs.Octets.{word2}
use Rattle.archive_format.specs.Archive.{Filed, record_number, rising, last_number, next_at}
use Rattle.archive_format.specs.Archive.{filed_at, filed_from, runs, place_after}
use Rattle.archive_format.specs.Archive.{place_in}
use Rattle.archive_format.specs.Reading.{title_length, Ran, ran}

-- the record with a number, in a list
unfoldable pub lookup : List Filed → ℕ → Or Filed
lookup [] n = Err Record
lookup (f ∷ fs) n = cond (eqb (record_number f) n) (Ok f) (lookup fs n)

-- ---- a search in records that run: both absent, or the place holds the record

pub data Search (size : ℕ) (l : List ℕ) (t : ℕ) (x : Or ℕ) (y : Or Filed) : Type 0 where
  absent : x ≡ Err Record → y ≡ Err Record → Search size l t x y
  present : (p : ℕ) → x ≡ Ok p → y ≡ Ok (filed_at size l p) → next_at size l p ≤ t → Search size l t x y

-- ---- a list with more records after it

pub lookup_more : (fs gs : List Filed) (n : ℕ) (g : Filed) → lookup fs n ≡ Ok g → lookup (fs ++ gs) n ≡ Ok g
unfolding lookup
lookup_more [] gs n g h = false_true (cc)
lookup_more (f ∷ fs) gs n g h = go (eqb (record_number f) n) h (lookup_more fs gs n g)
  where
    go : (b : Bool) → cond b (Ok f) (lookup fs n) ≡ Ok g → (lookup fs n ≡ Ok g → lookup (fs ++ gs) n ≡ Ok g) → cond b (Ok f) (lookup (fs ++ gs) n) ≡ Ok g
    go true h ih = h
    go false h ih = ih h

pub lookup_after : (fs gs : List Filed) (n : ℕ) (r : Refusal) → lookup fs n ≡ Err r → lookup (fs ++ gs) n ≡ lookup gs n
unfolding lookup
lookup_after [] gs n r h = refl
lookup_after (f ∷ fs) gs n r h = go (eqb (record_number f) n) h (lookup_after fs gs n r)
  where
    go : (b : Bool) → cond b (Ok f) (lookup fs n) ≡ Err r → (lookup fs n ≡ Err r → lookup (fs ++ gs) n ≡ lookup gs n)
        → cond b (Ok f) (lookup (fs ++ gs) n) ≡ lookup gs n
    go true h ih = false_true (cc)
    go false h ih = ih h

pub place_more : (size at : ℕ) (fs gs : List Filed) (i p : ℕ) → place_in size at fs i ≡ Ok p → place_in size at (fs ++ gs) i ≡ Ok p
unfolding place_in
place_more size at [] gs i p h = false_true (cc)
place_more size at (f ∷ fs) gs zero p h = h
place_more size at (f ∷ fs) gs (suc i) p h = place_more size (place_after size at f) fs gs i p h

-- ---- numbers that rise

pub last_above : (p : ℕ) (fs : List Filed) → rising p fs ≡ true → p ≤ last_number p fs
unfolding rising last_number
last_above p [] r = omega arith
last_above p (f ∷ fs) r =
    let b : (ltb p (record_number f) ≡ true) × (rising (record_number f) fs ≡ true) = both _ _ r in
    omega (arith, ltb-true p (record_number f) b.0, last_above (record_number f) fs b.1)

-- ---- places

-- the places of the trailer are the records'
pub place_at : (size k : ℕ) (l : List ℕ) (t at q i : ℕ) → t ≤ length l → runs size k l t at q ≡ true → i < k
    → place_in size at (filed_from size k l at) i ≡ Ok (word2 l (q + 2 * i))
unfolding place_in filed_from
place_at size zero l t at q i h r s = absurd (omega arith)
place_at size (suc k) l t at q zero h r s =
    let m : Ran size k l t at q = ran r in
    let z : q + 2 * zero ≡ q = omega arith in
    rw (z, m.placed)
place_at size (suc k) l t at q (suc i) h r s =
    let m : Ran size k l t at q = ran r in
    let n : next_at size l at ≤ length l = omega arith in
    let z : q + 2 + 2 * i ≡ q + 2 * suc i = omega arith in
    ap (λ (y : ℕ). place_in size (at + size + 1 + y) (filed_from size k l (next_at size l at)) i) (title_length size l at n)
    ∙ place_at size k l t (next_at size l at) (q + 2) i h m.on (omega arith)
    ∙ ap (λ (y : ℕ). Ok (word2 l y)) z

pub place_beyond : (size p : ℕ) (fs : List Filed) (i : ℕ) → length fs ≤ i → place_in size p fs i ≡ Err Record
unfolding place_in
place_beyond size p [] i h = refl
place_beyond size p (f ∷ fs) zero h = absurd (omega arith)
place_beyond size p (f ∷ fs) (suc i) h = place_beyond size (place_after size p f) fs i (omega arith)

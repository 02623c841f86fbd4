-- Laws of specs/Finding.antt: What finding means: the place found holds the record with the number, and its title is that record's.
use Rattle.std.specs.Prelude.{ℕ, zero, suc, ◌+◌, ◌≤◌, ◌<◌, ◌≡◌, refl, Bool, true, false, cond, List, [], ◌∷◌, ◌++◌, eqb, ltb, length, get_or, Ok, Err}
use Rattle.std.proofs.Common.{arith, ap, ◌∙◌, eqb-true, ne_eqb}
use Rattle.refusal.specs.declared.Refusal.{Refusal}
use Rattle.refusal.specs.declared.Refusal.TheVariants.{Record}
use Rattle.refusal.specs.Refusal.{Or, and_then, both, false_true}
use Rattle.archive_format.specs.declared.Edition.{Edition}
use Rattle.archive_format.specs.declared.TitlePart.{TitlePart}
use Rattle.archive_format.specs.Archive.{Filed, record_number, body, rising, last_number, next_at}
use Rattle.archive_format.specs.Archive.{filed_at, filed_from, runs, count_at, trailer_at, decode, place_after}
use Rattle.archive_format.specs.Archive.{find_in, find_of, title_part_at, title_part_of, title_of}
use Rattle.archive_format.specs.Reading.{title_length, Ran, ran, Reads, reads}
use Rattle.archive_format.specs.Decoded.{Shaped}
use Rattle.archive_format.specs.Joined.{body_next}
use Rattle.archive_format.specs.Finding.{lookup, Search, last_above, absent, present}

search_from : (size k : ℕ) (l : List ℕ) (t at q n : ℕ) → t ≤ length l → runs size k l t at q ≡ true
    → Search size l t (find_in size at (filed_from size k l at) n) (lookup (filed_from size k l at) n)
unfolding find_in filed_from lookup
search_from size zero l t at q n h r = absent refl refl
search_from size (suc k) l t at q n h r =
    let m : Ran size k l t at q = ran r in
    let w : next_at size l at ≤ length l = omega arith in
    rw (title_length size l at w) (go (eqb (record_number (filed_at size l at)) n) m.within (search_from size k l t (next_at size l at) (q + 2) n h m.on))
  where
    go : (b : Bool) {x : Or ℕ} {y : Or Filed} → next_at size l at ≤ t → Search size l t x y
        → Search size l t (cond b (Ok at) x) (cond b (Ok (filed_at size l at)) y)
    go true within ih = present at refl refl within
    go false within ih = ih

pub searched : (e : Edition) (l : List ℕ) (fs : List Filed) (n : ℕ) → decode e l ≡ Ok fs → Search e.size l (trailer_at l) (find_of e l n) (lookup fs n)
unfolding find_of
searched e l fs n r =
    let m : Reads e l fs = reads e l fs r in
    let w : trailer_at l ≤ length l = omega (arith, m.sized) in
    rw r (rw m.held at (search_from e.size (count_at l) l (trailer_at l) 0 (trailer_at l) n w m.run))

-- the place found holds the record with the number
pub find_is : (e : Edition) (l : List ℕ) (fs : List Filed) (n p : ℕ) → decode e l ≡ Ok fs → find_of e l n ≡ Ok p → lookup fs n ≡ Ok (filed_at e.size l p)
find_is e l fs n p r f = go (searched e l fs n r)
  where
    go : Search e.size l (trailer_at l) (find_of e l n) (lookup fs n) → lookup fs n ≡ Ok (filed_at e.size l p)
    go (absent x y) = false_true (cc)
    go (present o x y w) = let z : o ≡ p = cc in rw z at y

pub absent_is : (e : Edition) (l : List ℕ) (fs : List Filed) (n : ℕ) (m : Refusal) → decode e l ≡ Ok fs → find_of e l n ≡ Err m → lookup fs n ≡ Err Record
absent_is e l fs n m r f = go (searched e l fs n r)
  where
    go : Search e.size l (trailer_at l) (find_of e l n) (lookup fs n) → lookup fs n ≡ Err Record
    go (absent x y) = y
    go (present o x y w) = false_true (cc)

pub find_absent : (e : Edition) (l : List ℕ) (fs : List Filed) (n : ℕ) (m : Refusal) → decode e l ≡ Ok fs → lookup fs n ≡ Err m → find_of e l n ≡ Err Record
find_absent e l fs n m r g = go (searched e l fs n r)
  where
    go : Search e.size l (trailer_at l) (find_of e l n) (lookup fs n) → find_of e l n ≡ Err Record
    go (absent x y) = x
    go (present o x y w) = false_true (cc)

-- whole, with its title, before the archive ends
pub find_within : (e : Edition) (l : List ℕ) (n p : ℕ) → find_of e l n ≡ Ok p → next_at e.size l p ≤ length l
unfolding find_of
find_within e l n p found = go (decode e l) refl found
  where
    inside : (fs : List Filed) → Reads e l fs → Search e.size l (trailer_at l) (find_of e l n) (lookup fs n) → next_at e.size l p ≤ length l
    inside fs m (absent x y) = false_true (cc found)
    inside fs m (present o x y w) = let z : o ≡ p = cc found in rw (← z) (omega (arith, m.sized))

    go : (x : Or (List Filed)) → decode e l ≡ x → and_then x (λ fs. find_in e.size 0 fs n) ≡ Ok p → next_at e.size l p ≤ length l
    go (Err m) r f = false_true (cc)
    go (Ok fs) r f = inside fs (reads e l fs r) (searched e l fs n r)

-- a title's part lies in the archive
pub part_within : (e : Edition) (l : List ℕ) (n : ℕ) (part : TitlePart) → title_part_of e l n ≡ Ok part → part.place + part.length ≤ length l
unfolding title_part_of
part_within e l n part = go (find_of e l n) refl
  where
    go : (x : Or ℕ) → find_of e l n ≡ x → title_part_at e.size l x ≡ Ok part → part.place + part.length ≤ length l
    go (Err m) f t = false_true (cc)
    go (Ok p) f t =
        let is : ◌≡◌ {A = TitlePart} (record { place = p + e.size + 1; length = get_or l (p + e.size) 0 }) part = cc in
        rw (← is) (omega (arith, find_within e l n p f))

-- the title handed back is that record's
pub title_is : (e : Edition) (l : List ℕ) (n p : ℕ) → find_of e l n ≡ Ok p → title_of e l n ≡ (filed_at e.size l p).title
unfolding title_of title_part_of
title_is e l n p f = rw f

-- a record found has the number looked for
lookup_number : (fs : List Filed) (n : ℕ) (g : Filed) → lookup fs n ≡ Ok g → record_number g ≡ n
unfolding lookup
lookup_number [] n g h = false_true (cc)
lookup_number (f ∷ fs) n g h = go (eqb (record_number f) n) refl h (lookup_number fs n g)
  where
    go : (b : Bool) → eqb (record_number f) n ≡ b → cond b (Ok f) (lookup fs n) ≡ Ok g → (lookup fs n ≡ Ok g → record_number g ≡ n) → record_number g ≡ n
    go true e h ih = let z : f ≡ g = cc in rw (← z) (eqb-true _ _ e)
    go false e h ih = ih h

pub found_number : (e : Edition) (l : List ℕ) (fs : List Filed) (n p : ℕ) → decode e l ≡ Ok fs → find_of e l n ≡ Ok p → record_number (filed_at e.size l p) ≡ n
found_number e l fs n p r f = lookup_number fs n _ (find_is e l fs n p r f)

pub find_more : (size at : ℕ) (fs gs : List Filed) (n p : ℕ) → find_in size at fs n ≡ Ok p → find_in size at (fs ++ gs) n ≡ Ok p
unfolding find_in
find_more size at [] gs n p h = false_true (cc)
find_more size at (f ∷ fs) gs n p h = go (eqb (record_number f) n) h (find_more size (place_after size at f) fs gs n p)
  where
    go : (b : Bool) → cond b (Ok at) (find_in size (place_after size at f) fs n) ≡ Ok p
        → (find_in size (place_after size at f) fs n ≡ Ok p → find_in size (place_after size at f) (fs ++ gs) n ≡ Ok p)
        → cond b (Ok at) (find_in size (place_after size at f) (fs ++ gs) n) ≡ Ok p
    go true h ih = h
    go false h ih = ih h

-- a number that the list has not is looked for in what follows
pub find_after : (size at : ℕ) (fs gs : List Filed) (n : ℕ) (m : Refusal) → Shaped size fs → find_in size at fs n ≡ Err m
    → find_in size at (fs ++ gs) n ≡ find_in size (at + length (body fs)) gs n
unfolding find_in body
find_after size at [] gs n m s h = let z : at ≡ at + 0 = omega arith in ap (λ (y : ℕ). find_in size y gs n) z
find_after size at (f ∷ fs) gs n m s h =
    go (eqb (record_number f) n) h (find_after size (place_after size at f) fs gs n m s.2) (body_next size at f fs s.0)
  where
    go : (b : Bool) {end : ℕ} → cond b (Ok at) (find_in size (place_after size at f) fs n) ≡ Err m
        → (find_in size (place_after size at f) fs n ≡ Err m
        → find_in size (place_after size at f) (fs ++ gs) n ≡ find_in size (place_after size at f + length (body fs)) gs n)
        → place_after size at f + length (body fs) ≡ end
        → cond b (Ok at) (find_in size (place_after size at f) (fs ++ gs) n) ≡ find_in size end gs n
    go true h ih z = false_true (cc)
    go false h ih z = ih h ∙ ap (λ (y : ℕ). find_in size y gs n) z

-- a number above the last is not in the list
pub find_above : (size at p : ℕ) (fs : List Filed) (n : ℕ) → rising p fs ≡ true → last_number p fs < n → find_in size at fs n ≡ Err Record
unfolding rising last_number find_in
find_above size at p [] n r h = refl
find_above size at p (f ∷ fs) n r h =
    let b : (ltb p (record_number f) ≡ true) × (rising (record_number f) fs ≡ true) = both _ _ r in
    let other : record_number f ≡ n → ⊥ = λ same. omega (arith, same, last_above (record_number f) fs b.1) in
    rw (ne_eqb _ _ other) (find_above size (place_after size at f) (record_number f) fs n b.1 h)

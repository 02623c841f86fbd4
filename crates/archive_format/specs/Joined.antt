-- Two lists of records, one after the other: their titles, numbers, shapes and bytes; the first of a fit list is fit.
use Rattle.std.specs.Prelude.{ℕ, ◌+◌, ◌≡◌, refl, ◌&&◌, List, [], ◌∷◌, ◌++◌, ltb, length}
use Rattle.std.proofs.Common.{arith, sym, append_assoc, length-append}
use Rattle.std.proofs.Math.Bool.{and_assoc}
use Rattle.archive_format.specs.Archive.{Filed, record_number, body, printables, titled, rising, last_number, place_after}
use Rattle.archive_format.specs.Decoded.{Shaped}

pub titled_append : (fs gs : List Filed) → titled (fs ++ gs) ≡ (titled fs && titled gs)
unfolding titled
titled_append [] gs = refl
titled_append (f ∷ fs) gs = rw (titled_append fs gs) (sym (and_assoc (printables f.title) (titled fs) (titled gs)))

pub rising_append : (p : ℕ) (fs gs : List Filed) → rising p (fs ++ gs) ≡ (rising p fs && rising (last_number p fs) gs)
unfolding rising last_number
rising_append p [] gs = refl
rising_append p (f ∷ fs) gs =
    let n : ℕ = record_number f in
    rw (rising_append n fs gs) (sym (and_assoc (ltb p n) (rising n fs) (rising (last_number n fs) gs)))

pub shaped_append : (size : ℕ) (fs gs : List Filed) → Shaped size fs → Shaped size gs → Shaped size (fs ++ gs)
shaped_append size [] gs h k = k
shaped_append size (f ∷ fs) gs h k = (h.0, h.1, shaped_append size fs gs h.2 k)

pub shaped_parts : (size : ℕ) (fs gs : List Filed) → Shaped size (fs ++ gs) → Shaped size fs × Shaped size gs
shaped_parts size [] gs h = (tt, h)
shaped_parts size (f ∷ fs) gs h = let r : Shaped size fs × Shaped size gs = shaped_parts size fs gs h.2 in ((h.0, h.1, r.0), r.1)

pub body_append : (fs gs : List Filed) → body (fs ++ gs) ≡ body fs ++ body gs
unfolding body
body_append [] gs = refl
body_append (f ∷ fs) gs = rw (body_append fs gs) (simp append_assoc)

-- the place after a first record and those behind it
pub body_next : (size at : ℕ) (f : Filed) (fs : List Filed) → length f.bytes ≡ size
    → place_after size at f + length (body fs) ≡ at + length (body (f ∷ fs))
unfolding body
body_next size at f fs sized = simp length-append (omega arith)

-- Archives of segment records: the bytes that hold a list of them, and what reading, finding and adding answer.
-- Paper 01's words: an archive is a drawer, a segment record a card.
use Rattle.std.specs.Prelude.{ℕ, zero, suc, ◌+◌, ◌*◌, ◌-◌, Bool, true, ◌&&◌, cond, ◌≡◌, List, [], ◌∷◌, ◌++◌, leb, ltb, eqb, length, take, drop, get_or, Ok, Err}
use Rattle.std.specs.List.{list_all}
use Rattle.refusal.specs.declared.Refusal.TheVariants.{Mark, Trailer, Places, Title, Order, Record, BufferRoom, Full}
use Rattle.refusal.specs.Refusal.{Or, need, and_then}
use Rattle.octets.specs.Octets.{word2, word4, bytes2}
use Rattle.segment.specs.Layout as layout
use Rattle.archive_format.specs.declared.Edition.{Edition}
use Rattle.archive_format.specs.declared.TitlePart.{TitlePart}

-- the most records that an archive holds
abbrev pub record_limit : ℕ
record_limit = 512

-- the most bytes of a title
abbrev pub title_limit : ℕ
title_limit = 40

-- ---- what an archive holds, and its bytes

-- a record as it is filed: its bytes and its title
pub record Filed : Type 0 where
  pub bytes : List ℕ
  pub title : List ℕ

abbrev pub record_number : Filed → ℕ
record_number f = word4 f.bytes layout.number_at

-- records one after another: the bytes, the title's length, the title
unfoldable pub body : List Filed → List ℕ
body [] = []
body (f ∷ fs) = f.bytes ++ (length f.title ∷ (f.title ++ body fs))

-- the place after a record that stands at p, and its title
abbrev pub place_after : ℕ → ℕ → Filed → ℕ
place_after size p f = p + size + 1 + length f.title

-- each record's place, where the first stands at p
unfoldable pub places : ℕ → ℕ → List Filed → List ℕ
places size p [] = []
places size p (f ∷ fs) = bytes2 p ++ places size (place_after size p f) fs

-- the trailer: the places, the count, the trailer's own place, the mark
unfoldable pub encode : Edition → List Filed → List ℕ
encode e fs = body fs ++ (places e.size 0 fs ++ (bytes2 (length fs) ++ (bytes2 (length (body fs)) ++ (e.first ∷ e.second ∷ []))))

-- ---- what is asked of titles and numbers

abbrev pub printable : ℕ → Bool
printable b = leb 32 b && leb b 126

abbrev pub printables : List ℕ → Bool
printables t = list_all printable t

-- a title that a record may be filed with
abbrev pub title_fits : List ℕ → Bool
title_fits t = leb (length t) title_limit && printables t

unfoldable pub titled : List Filed → Bool
titled [] = true
titled (f ∷ fs) = printables f.title && titled fs

-- each number above the one before, the first above p
unfoldable pub rising : ℕ → List Filed → Bool
rising p [] = true
rising p (f ∷ fs) = ltb p (record_number f) && rising (record_number f) fs

-- the last number; p where there is none
unfoldable pub last_number : ℕ → List Filed → ℕ
last_number p [] = p
last_number p (f ∷ fs) = last_number (record_number f) fs

-- ---- reading

-- the place after the record at a place
abbrev pub next_at : ℕ → List ℕ → ℕ → ℕ
next_at size l at = at + size + 1 + get_or l (at + size) 0

abbrev pub filed_at : ℕ → List ℕ → ℕ → Filed
filed_at size l at = record { bytes = take size (drop at l); title = take (get_or l (at + size) 0) (drop (at + size + 1) l) }

-- so many records, one after another from a place
unfoldable pub filed_from : ℕ → ℕ → List ℕ → ℕ → List Filed
filed_from size zero l at = []
filed_from size (suc k) l at = filed_at size l at ∷ filed_from size k l (next_at size l at)

-- so many records run from a place to the trailer t, as the places from q on say, with no title over 40 bytes
unfoldable pub runs : ℕ → ℕ → List ℕ → ℕ → ℕ → ℕ → Bool
runs size zero l t at q = eqb at t
runs size (suc k) l t at q =
    (eqb (word2 l q) at && (leb (get_or l (at + size) 0) title_limit && leb (next_at size l at) t)) && runs size k l t (next_at size l at) (q + 2)

-- each test over all records before the next test
unfoldable pub decode_body : ℕ → List ℕ → ℕ → ℕ → Or (List Filed)
decode_body size l count t =
    need Places (runs size count l t 0 t)
    (need Title (titled (filed_from size count l 0))
    (need Order (rising 0 (filed_from size count l 0))
    (Ok (filed_from size count l 0))))

abbrev pub count_at : List ℕ → ℕ
count_at l = word2 l (length l - 6)

abbrev pub trailer_at : List ℕ → ℕ
trailer_at l = word2 l (length l - 4)

abbrev pub marked : Edition → List ℕ → Bool
marked e l = eqb (get_or l (length l - 2) 0) e.first && eqb (get_or l (length l - 1) 0) e.second

-- the end's tests, then the body's
unfoldable pub decode : Edition → List ℕ → Or (List Filed)
decode e l =
    need Mark (leb 6 (length l) && marked e l)
    (need Trailer (leb (count_at l) record_limit && eqb (trailer_at l + 2 * count_at l + 6) (length l))
    (decode_body e.size l (count_at l) (trailer_at l)))

-- ---- the calls

unfoldable pub count_of : Edition → List ℕ → Or ℕ
count_of e l = and_then (decode e l) (λ fs. Ok (length fs))

-- the place of the record with an index, where the first stands at p; 6 where there is none
unfoldable pub place_in : ℕ → ℕ → List Filed → ℕ → Or ℕ
place_in size p [] i = Err Record
place_in size p (f ∷ fs) zero = Ok p
place_in size p (f ∷ fs) (suc i) = place_in size (place_after size p f) fs i

unfoldable pub place_of : Edition → List ℕ → ℕ → Or ℕ
place_of e l i = and_then (decode e l) (λ fs. place_in e.size 0 fs i)

-- the place of the record with a number
unfoldable pub find_in : ℕ → ℕ → List Filed → ℕ → Or ℕ
find_in size p [] n = Err Record
find_in size p (f ∷ fs) n = cond (eqb (record_number f) n) (Ok p) (find_in size (place_after size p f) fs n)

unfoldable pub find_of : Edition → List ℕ → ℕ → Or ℕ
find_of e l n = and_then (decode e l) (λ fs. find_in e.size 0 fs n)

-- where the title of the record at a place stands, behind the record and its own length; and that length
abbrev pub title_part_at : ℕ → List ℕ → Or ℕ → Or TitlePart
title_part_at size l (Err r) = Err r
title_part_at size l (Ok p) = Ok (record { place = p + size + 1; length = get_or l (p + size) 0 })

-- of the record with a number
unfoldable pub title_part_of : Edition → List ℕ → ℕ → Or TitlePart
title_part_of e l n = title_part_at e.size l (find_of e l n)

-- the bytes of an archive at a place and of a length; none where there is no place
abbrev pub bytes_at : List ℕ → Or TitlePart → List ℕ
bytes_at l (Err r) = []
bytes_at l (Ok part) = take part.length (drop part.place l)

-- a title is the part of the archive at its place and of its length
unfoldable pub title_of : Edition → List ℕ → ℕ → List ℕ
title_of e l n = bytes_at l (title_part_of e l n)

abbrev pub single : List ℕ → List ℕ → List Filed
single b t = record { bytes = b; title = t } ∷ []

-- the bytes with one record more, for a second buffer of `room` bytes
unfoldable pub add_to : Edition → List ℕ → List ℕ → ℕ → List Filed → Or (List ℕ)
add_to e b t room fs =
    need Record (eqb (length b) e.size)
    (need Title (title_fits t)
    (need Order (ltb (last_number 0 fs) (word4 b layout.number_at))
    (need BufferRoom (leb (length (encode e (fs ++ single b t))) room)
    (need Full (ltb (length fs) record_limit)
    (Ok (encode e (fs ++ single b t)))))))

unfoldable pub add_of : Edition → List ℕ → List ℕ → List ℕ → ℕ → Or (List ℕ)
add_of e l b t room = and_then (decode e l) (λ fs. add_to e b t room fs)

-- ---- a call that writes to a lent buffer: what it answers, and the buffer afterwards

-- the length of what it wrote
abbrev pub new_length : Or (List ℕ) → Or ℕ
new_length x = and_then x (λ new. Ok (length new))

-- a refusal writes nothing; bytes beyond the new archive stay
abbrev pub overwrite : Or (List ℕ) → List ℕ → List ℕ
overwrite (Err r) out = out
overwrite (Ok new) out = new ++ drop (length new) out

-- a call that writes bytes to a lent buffer, or refuses: its answer, and the buffer afterwards
pub record Writes (x : Or (List ℕ)) (before : List ℕ) (r : Or ℕ) (after : List ℕ) : Type 0 where
  pub answer : r ≡ new_length x
  pub buffer : after ≡ overwrite x before

-- ---- the first edition: records of 68 bytes, mark "DR"

abbrev pub first_edition : Edition
first_edition = record { size = layout.size; first = 68; second = 82 }

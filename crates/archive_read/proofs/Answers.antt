-- What an archive that reads says of the calls' answers.
use Rattle.std.specs.Prelude.{ℕ, ◌+◌, ◌*◌, ◌≤◌, ◌<◌, ◌≡◌, refl, Bool, true, false, ltb, List, length, Ok}
use Rattle.std.proofs.Common.{arith, ltb-true, ltb-false}
use Rattle.refusal.specs.declared.Refusal.TheVariants.{Record}
use Rattle.refusal.specs.Refusal.{need}
use Rattle.octets.specs.Octets.{word2}
use Rattle.archive_format.specs.declared.Edition.{Edition}
use Rattle.archive_format.specs.Archive.{filed_from, place_in, find_of}
use Rattle.archive_format.specs.Reading.{filed_length}
use Rattle.archive_format.specs.Finding.{place_at, place_beyond}
use Rattle.archive_format.proofs.Finding.{find_within}
use Rattle.archive_open.specs.declared.Archive.{Archive}
use Rattle.archive_open.specs.Opened.{holds, held_run, held_fits}

-- the places lie in the trailer
pub fits : (a : Archive) → a.trailer + 2 * a.count + 6 ≡ length a.bytes.now
fits a = held_fits a.sized.edition a.bytes.now (holds a)

-- an index below the count has the place that the trailer tells
pub placed : (a : Archive) (i : ℕ) →
    place_in a.sized.edition.size 0 (filed_from a.sized.edition.size a.count a.bytes.now 0) i
    ≡ need Record (ltb i a.count) (Ok (word2 a.bytes.now (a.trailer + 2 * i)))
unfolding need
placed a i = go (ltb i a.count) refl
  where
    go : (b : Bool) → ltb i a.count ≡ b →
        place_in a.sized.edition.size 0 (filed_from a.sized.edition.size a.count a.bytes.now 0) i ≡ need Record b (Ok (word2 a.bytes.now (a.trailer + 2 * i)))
    go true b = place_at _ _ _ a.trailer 0 a.trailer i (omega (arith, fits a)) (held_run _ _ (holds a)) (ltb-true _ _ b)
    go false b =
        let beyond : a.count ≤ i = ltb-false _ _ b in
        place_beyond _ 0 (filed_from a.sized.edition.size a.count a.bytes.now 0) i (rw filed_length beyond)

pub ruleset placing = (fits, placed)

-- a record found lies in the archive, with the byte that holds its title's length
pub within : (e : Edition) (l : List ℕ) (n p : ℕ) → find_of e l n ≡ Ok p → p + e.size < length l
within e l n p found = omega (arith, find_within e l n p found)

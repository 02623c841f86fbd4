-- Written reads back: where adding accepts, the new archive reads as the old records, in order, and the new one;
-- finding and titles give back the new record, and every record found before at its place, with its bytes and title.
-- And the records of a fit list are accepted one after another.
use Rattle.std.specs.Prelude.{ℕ, ◌+◌, ◌≤◌, ◌<◌, ◌≡◌, true, List, ◌++◌, length, take, drop, Ok, Err}
use Rattle.octets.specs.Octets.{word4}
use Rattle.archive_format.specs.declared.Edition.{Edition}
use Rattle.archive_format.specs.Archive.{record_limit, title_limit, Filed, body, printables, last_number}
use Rattle.archive_format.specs.Archive.{decode, count_of, place_of, find_of, title_of, single}
use Rattle.refusal.specs.declared.Refusal.TheVariants.{Record}

-- ---- one record more

-- what adding asks of a record and its title, after the records of an archive
pub record Accepts (e : Edition) (fs : List Filed) (b t : List ℕ) : Type 0 where
  pub sized : length b ≡ e.size
  pub short : length t ≤ title_limit
  pub clean : printables t ≡ true
  pub above : last_number 0 fs < word4 b 0
  pub free : length fs < record_limit

-- ---- written reads back

-- a record found before, in the new archive
pub record Kept (e : Edition) (l new : List ℕ) (n p : ℕ) : Type 0 where
  pub found : find_of e new n ≡ Ok p
  pub bytes : take e.size (drop p new) ≡ take e.size (drop p l)
  pub title : title_of e new n ≡ title_of e l n

pub record Added (e : Edition) (l b t new : List ℕ) : Type 0 where
  -- the old records, then the new one
  pub fs : List Filed
  pub old : decode e l ≡ Ok fs
  pub more : decode e new ≡ Ok (fs ++ single b t)
  pub count : count_of e new ≡ Ok (length fs + 1)
  -- the new record stands where the old trailer stood
  pub found : find_of e new (word4 b 0) ≡ Ok (length (body fs))
  pub bytes : take e.size (drop (length (body fs)) new) ≡ b
  pub title : title_of e new (word4 b 0) ≡ t
  -- what was found before is found, what was placed before is placed, and no other number appears
  pub kept : (n p : ℕ) → find_of e l n ≡ Ok p → Kept e l new n p
  pub placed : (i p : ℕ) → place_of e l i ≡ Ok p → place_of e new i ≡ Ok p
  pub absent : (n : ℕ) → (word4 b 0 ≡ n → ⊥) → find_of e l n ≡ Err Record → find_of e new n ≡ Err Record

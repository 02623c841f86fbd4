-- What the reading calls answer of an archive, record by record: place, finding and title of each, and of no other.
-- So the records come back by asking for each place, and reading gives the list that the archive holds.
use Rattle.std.specs.Prelude.{ℕ, zero, suc, ◌+◌, ◌≤◌, ◌≡◌, take, Ok, Err}
use mathlib.Core.List.{List, [], ◌∷◌, ◌++◌}
use Rattle.std.proofs.Math.ListN.{length, drop}
use Rattle.octets.specs.Octets.{word4}
use Rattle.segment.specs.Layout as layout
use Rattle.archive_format.specs.declared.Edition.{Edition}
use Rattle.archive_format.specs.Archive.{Filed, record_number, decode}
use Rattle.archive_format.specs.Archive.{count_of, place_of, find_of, title_part_of, title_of}
use Rattle.archive_format.specs.Finding.{lookup}
use Rattle.refusal.specs.declared.Refusal.TheVariants.{Record}
use Rattle.refusal.specs.Refusal.{Or}

-- ---- an archive that reads as a list

-- the calls on the record with an index
pub record Stands (e : Edition) (l : List ℕ) (i : ℕ) (f : Filed) : Type 0 where
  pub place : ℕ
  pub placed : place_of e l i ≡ Ok place
  pub bytes : take e.size (drop place l) ≡ f.bytes
  pub found : find_of e l (record_number f) ≡ Ok place
  pub part : title_part_of e l (record_number f) ≡ Ok (record { place = place + e.size + 1; length = length f.title })
  pub title : title_of e l (record_number f) ≡ f.title

pub record ReadsAs (e : Edition) (l : List ℕ) (fs : List Filed) : Type 0 where
  pub is : decode e l ≡ Ok fs
  pub count : count_of e l ≡ Ok (length fs)
  pub each : (gs : List Filed) (f : Filed) (hs : List Filed) → fs ≡ gs ++ (f ∷ hs) → Stands e l (length gs) f
  -- no other index and no other number
  pub beyond : (i : ℕ) → length fs ≤ i → place_of e l i ≡ Err Record
  pub absent : (n : ℕ) → lookup fs n ≡ Err Record → find_of e l n ≡ Err Record

-- ---- the records by the calls

-- the record at the place that was answered, with the title of its number
abbrev pub record_by : Edition → List ℕ → Or ℕ → Filed
record_by e l (Err r) = record { bytes = []; title = [] }
record_by e l (Ok p) = record { bytes = take e.size (drop p l); title = title_of e l (word4 (take e.size (drop p l)) layout.number_at) }

-- so many records by their places, from an index on
unfoldable pub records_from : Edition → List ℕ → ℕ → ℕ → List Filed
records_from e l zero i = []
records_from e l (suc k) i = record_by e l (place_of e l i) ∷ records_from e l k (i + 1)

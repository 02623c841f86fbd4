-- What going through the records of an archive gives, and what is kept on the way.
use Rattle.std.specs.Prelude.{ℕ, suc, ◌≤◌, ◌≡◌, List, length, take, drop, Option, None, Some}
use Rattle.std.proofs.Common.{arith, ◌∙◌}
use denote.Ref.{Bor}
use Rattle.archive_format.specs.Archive.{next_at, filed_at}
use Rattle.archive_format.specs.Reading.{bytes_length}
use Rattle.archive_open.specs.declared.records.Records.{Records}
use Rattle.archive_open.specs.Walking.{Walk, walk_fits, walk_on}

-- the record at a place, with the ones after it left
pub record IsRecord (old : Records) (place : ℕ) (bytes : List ℕ) (new : Records) : Type 0 where
  pub one : old.left ≡ suc new.left
  pub placed : place ≡ old.place
  pub read : bytes ≡ take old.size (drop old.place old.bytes.now)
  pub next : new.place ≡ next_at old.size old.bytes.now old.place
  pub sized : new.size ≡ old.size
  pub same : new.bytes.now ≡ old.bytes.now

-- one record, or none is left
abbrev pub GivesRecord : Records → Option (ℕ × Bor (List ℕ)) → Records → Type 0
GivesRecord old None new = old.left ≡ 0
GivesRecord old (Some x) new = IsRecord old x.0 x.1.now new

-- ---- what a loop over the records keeps

pub record Through (size : ℕ) (l : List ℕ) (r : Records) : Type 0 where
  pub sized : r.size ≡ size
  pub bytes : r.bytes.now ≡ l
  pub walk : Walk r.size r.bytes.now r.left r.place

module _ {size : ℕ} {l : List ℕ} {r : Records} (w : Through size l r) {place : ℕ} {b : List ℕ} {r' : Records} (g : IsRecord r place b r') where
  pub through_on : Through size l r'
  through_on = record { sized = g.sized ∙ w.sized; bytes = g.same ∙ w.bytes; walk = rw (g.sized, g.same) (walk_on w.walk _ g.one g.next) }

  pub through_next : r'.place ≡ next_at size l r.place
  through_next = g.next ∙ rw (w.sized, w.bytes)

  pub through_fits : next_at size l r.place ≤ length l
  through_fits = rw (w.sized, w.bytes) at (walk_fits w.walk (omega (arith, g.one)))

  pub through_read : b ≡ (filed_at size l r.place).bytes
  through_read = g.read ∙ rw (w.sized, w.bytes)

  pub through_long : length b ≡ size
  through_long = rw (through_read) (bytes_length size l r.place through_fits)

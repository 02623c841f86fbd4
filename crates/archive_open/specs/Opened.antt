-- What opening an archive answers, and what that says of its reading.
use Rattle.std.specs.Prelude.{ℕ, ◌+◌, ◌*◌, ◌≡◌, refl, true, List, length, Ok, Err}
use Rattle.std.proofs.Common.{sym, ◌∙◌}
use Rattle.refusal.specs.Refusal.{Or}
use Rattle.archive_format.specs.declared.Edition.{Edition}
use Rattle.archive_format.specs.Archive.{Filed, body, last_number, filed_from, runs, count_at, trailer_at, decode}
use Rattle.archive_format.specs.Reading.{filed_length, Reads, reads}
use Rattle.archive_open.specs.declared.Archive.{Archive}

-- the refusal, or the archive of these bytes, which says that they read
abbrev pub Opens : Edition → List ℕ → Or Archive → Type 0
Opens e l (Err r) = decode e l ≡ Err r
Opens e l (Ok a) = (a.sized.edition ≡ e) × (a.bytes.now ≡ l)

-- ---- read

pub record Held (e : Edition) (l : List ℕ) (count t last : ℕ) : Type 0 where
  pub fs : List Filed
  pub is : decode e l ≡ Ok fs
  pub count_is : count ≡ count_at l
  pub trailer_is : t ≡ trailer_at l
  pub last_is : last ≡ last_number 0 fs
  pub read : Reads e l fs

-- an archive that reads, by its count, its trailer's place and its last number
pub held_of : {e : Edition} {l : List ℕ} {count t last : ℕ} (fs : List Filed) → decode e l ≡ Ok fs → count ≡ length fs → t ≡ length (body fs)
    → last ≡ last_number 0 fs → Held e l count t last
held_of {e} {l} fs r count-is trailer-is last-is =
    let m : Reads e l fs = reads e l fs r in
    record { fs = fs; is = r; count_is = count-is ∙ sym m.count; trailer_is = trailer-is ∙ sym m.trailer; last_is = last-is; read = m }

pub holds : (a : Archive) → Held a.sized.edition a.bytes.now a.count a.trailer a.last
holds a =
    let fs : List Filed = filed_from a.sized.edition.size a.count a.bytes.now 0 in
    let m : Reads a.sized.edition a.bytes.now fs = reads a.sized.edition a.bytes.now fs a.read in
    held_of fs a.read (sym (filed_length a.sized.edition.size a.count a.bytes.now 0)) (a.ends ∙ m.trailer) a.lasts

pub held : {e : Edition} {l : List ℕ} (a : Archive) → Opens e l (Ok a) → Held e l a.count a.trailer a.last
held a o = rw o.0 at (rw o.1 at (holds a))

-- of whatever reads, opened or not
pub held_by : (e : Edition) (l : List ℕ) (fs : List Filed) → decode e l ≡ Ok fs → Held e l (length fs) (length (body fs)) (last_number 0 fs)
held_by e l fs r = held_of fs r refl refl refl

module _ (e : Edition) (l : List ℕ) {count t last : ℕ} (h : Held e l count t last) where
  pub held_run : runs e.size count l t 0 t ≡ true
  held_run = rw (h.count_is, h.trailer_is) h.read.run

  pub held_fits : t + 2 * count + 6 ≡ length l
  held_fits = rw (h.count_is, h.trailer_is) h.read.sized

  pub held_filed : decode e l ≡ Ok (filed_from e.size count l 0)
  held_filed = h.is ∙ rw (h.count_is, h.read.held)

-- The loop that seeks a number among the records: the records left hold it where all of them do.
use Rattle.std.specs.Prelude.{ℕ, ◌≤◌, ◌≡◌, List, length, Ok, Err}
use Rattle.std.proofs.Common.{sym, ◌∙◌, eq-eqb, ne_eqb}
use Rattle.refusal.specs.declared.Refusal.TheVariants.{Record}
use Rattle.octets.specs.Octets.{word4}
use Rattle.archive_format.specs.Archive.{find_in, record_number, filed_at, filed_from}
use Rattle.archive_format.specs.Reading.{title_length}
use Rattle.archive_open.specs.declared.records.Records.{Records}
use Rattle.archive_open.specs.Records.{IsRecord, Through, through_on, through_next, through_fits, through_read, through_long}

pub record Seeking (size : ℕ) (l : List ℕ) (count number : ℕ) (r : Records) : Type 0 where
  pub through : Through size l r
  pub same : find_in size 0 (filed_from size count l 0) number ≡ find_in size r.place (filed_from size r.left l r.place) number

module _ {size : ℕ} {l : List ℕ} {count number : ℕ} {r : Records} (w : Seeking size l count number r) where
  module _ {place : ℕ} {b : List ℕ} {r' : Records} (g : IsRecord r place b r') where
    pub seek_fits : 4 ≤ size → 4 ≤ length b
    seek_fits h = rw (through_long w.through g) h

    module _ {n : ℕ} (en : n ≡ word4 b 0) where
      num : record_number (filed_at size l r.place) ≡ n
      num = sym (rw (en, through_read w.through g))

      pub seek_found : n ≡ number → Ok place ≡ find_in size 0 (filed_from size count l 0) number
      unfolding find_in filed_from
      seek_found f = sym (rw (w.same, g.one, num, eq-eqb _ _ f, g.placed))

      pub seek_on : (n ≡ number → ⊥) → Seeking size l count number r'
      unfolding find_in filed_from
      seek_on f =
          let long = title_length size l r.place (through_fits w.through g) in
          record { through = through_on w.through g; same = w.same ∙ rw (g.one, num, ne_eqb _ _ f, long, through_next w.through g) }

  pub seek_none : r.left ≡ 0 → Err Record ≡ find_in size 0 (filed_from size count l 0) number
  unfolding find_in filed_from
  seek_none e = sym (rw (w.same, e))

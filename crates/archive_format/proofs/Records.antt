-- Laws of specs/Records.antt: What the reading calls answer of an archive, record by record: place, finding and title of each, and of no other.
use Rattle.std.specs.Prelude.{ℕ, ◌+◌, ◌≤◌, ◌≡◌, Ok, Err}
use Rattle.std.proofs.Common.{zero-add, arith, sym, ◌∙◌, length-append, ltb-true, eq-eqb}
use Rattle.std.proofs.Math.Path.{refl, ap}
use Rattle.std.proofs.Math.Bool.{true}
use mathlib.Core.List.{List, [], ◌∷◌, ◌++◌, append_assoc}
use Rattle.std.proofs.Math.Dec.{ltb}
use Rattle.std.proofs.Math.ListN.{length, drop}
use Rattle.std.proofs.Math.Seq.{drop_at, append_snoc}
use Rattle.refusal.specs.declared.Refusal.TheVariants.{Record}
use Rattle.refusal.specs.Refusal.{Or, and_then, both, false_true}
use Rattle.archive_format.specs.declared.Edition.{Edition}
use Rattle.archive_format.specs.Archive.{Filed, record_number, body, rising, last_number, filed_at, count_at, trailer_at, decode, place_in, find_in}
use Rattle.archive_format.specs.Archive.{count_of, place_of, find_of, title_part_of}
use Rattle.archive_format.specs.Reading.{Reads, reads}
use Rattle.archive_format.specs.Decoded.{Shaped, Fit, body_laid}
use Rattle.archive_format.proofs.Decoded.{decoded_is_fit}
use Rattle.archive_format.specs.Encoded.{laid_length, laid_record}
use Rattle.archive_format.specs.Joined.{body_append, body_next, shaped_parts}
use Rattle.archive_format.proofs.Joined.{fit_first, fit_rises}
use Rattle.archive_format.specs.Finding.{place_beyond}
use Rattle.archive_format.proofs.Finding.{title_is, find_after, find_above, find_absent}
use Rattle.archive_format.specs.Records.{Stands, ReadsAs, records_from}

-- ---- a record with others before and after it

place_after_lem : (size at : ℕ) (gs : List Filed) (f : Filed) (hs : List Filed) → Shaped size gs
    → place_in size at (gs ++ (f ∷ hs)) (length gs) ≡ Ok (at + length (body gs))
unfolding place_in body
place_after_lem size at [] f hs s = let z : at ≡ at + 0 = omega arith in ap Ok z
place_after_lem size at (g ∷ gs) f hs s = place_after_lem size (at + size + 1 + length g.title) gs f hs s.2 ∙ ap Ok (body_next size at g gs s.0)

module _ (e : Edition) (l : List ℕ) (gs : List Filed) (f : Filed) (hs : List Filed) (r : decode e l ≡ Ok (gs ++ (f ∷ hs))) where
  abbrev rest : List ℕ
  rest = body hs ++ drop (trailer_at l) l

  fit : Fit e (gs ++ (f ∷ hs))
  fit = decoded_is_fit e l (gs ++ (f ∷ hs)) r

  shaped : Shaped e.size gs × Shaped e.size (f ∷ hs)
  shaped = shaped_parts e.size gs (f ∷ hs) fit.shaped

  -- it stands where the bytes of those before it end
  laid : drop (length (body gs)) l ≡ f.bytes ++ (length f.title ∷ (f.title ++ rest))
  unfolding body
  laid =
      let m : Reads e l (gs ++ (f ∷ hs)) = reads e l (gs ++ (f ∷ hs)) r in
      let w : trailer_at l ≤ length l = omega (arith, m.sized) in
      let whole : l ≡ body (gs ++ (f ∷ hs)) ++ drop (trailer_at l) l =
      rw m.held at (body_laid e.size (count_at l) l (trailer_at l) 0 (trailer_at l) w m.run) in
      ap (λ (z : List ℕ). drop (length (body gs)) z) (whole ∙ rw (body_append gs (f ∷ hs)) (append_assoc (body gs) (body (f ∷ hs)) (drop (trailer_at l) l)))
      ∙ drop_at (body gs) (body (f ∷ hs) ++ drop (trailer_at l) l) (length (body gs)) refl
      ∙ simp append_assoc

  pub record_is : filed_at e.size l (length (body gs)) ≡ f
  record_is = laid_record e.size f l (length (body gs)) rest shaped.1.0 laid

  pub place_is : place_of e l (length gs) ≡ Ok (length (body gs))
  unfolding place_of
  place_is = rw r (place_after_lem e.size 0 gs f hs shaped.0 ∙ rw zero-add)

  pub found_is : find_of e l (record_number f) ≡ Ok (length (body gs))
  unfolding find_of find_in rising
  found_is =
      let above : ltb (last_number 0 gs) (record_number f) ≡ true = (both _ _ (fit_rises e gs (f ∷ hs) fit)).0 in
      let gone : find_in e.size 0 gs (record_number f) ≡ Err Record =
      find_above e.size 0 0 gs (record_number f) (fit_first e gs (f ∷ hs) fit).risen (ltb-true _ _ above) in
      let own : record_number f ≡ record_number f = refl in
      rw r (find_after e.size 0 gs (f ∷ hs) (record_number f) Record shaped.0 gone ∙ rw (eq-eqb _ _ own, zero-add))

  pub part_is : title_part_of e l (record_number f) ≡ Ok (record { place = length (body gs) + e.size + 1; length = length f.title })
  unfolding title_part_of
  part_is = rw (found_is, laid_length e.size f l (length (body gs)) rest shaped.1.0 laid)

stands : (e : Edition) (l : List ℕ) (gs : List Filed) (f : Filed) (hs : List Filed) → decode e l ≡ Ok (gs ++ (f ∷ hs)) → Stands e l (length gs) f
stands e l gs f hs r =
    let found : find_of e l (record_number f) ≡ Ok (length (body gs)) = found_is e l gs f hs r in
    let same : filed_at e.size l (length (body gs)) ≡ f = record_is e l gs f hs r in
    record {
      place = length (body gs);
      placed = place_is e l gs f hs r;
      bytes = ap (λ (z : Filed). z.bytes) same;
      found = found;
      part = part_is e l gs f hs r;
      title = title_is e l (record_number f) (length (body gs)) found ∙ ap (λ (z : Filed). z.title) same;
    }

pub reads_as : (e : Edition) (l : List ℕ) (fs : List Filed) → decode e l ≡ Ok fs → ReadsAs e l fs
unfolding count_of place_of
reads_as e l fs r =
    record {
      is = r;
      count = rw r;
      each = λ gs f hs s. stands e l gs f hs (r ∙ ap Ok s);
      beyond = λ i h. rw (r, place_beyond e.size 0 fs i h);
      absent = λ n h. find_absent e l fs n Record r h;
    }

records_from_lem : (e : Edition) (l : List ℕ) (gs fs : List Filed) → decode e l ≡ Ok (gs ++ fs) → records_from e l (length fs) (length gs) ≡ fs
unfolding records_from
records_from_lem e l gs [] r = refl
records_from_lem e l gs (f ∷ fs) r =
    let s : Stands e l (length gs) f = stands e l gs f fs r in
    let more : length gs + 1 ≡ length (gs ++ (f ∷ [])) = sym (length-append gs (f ∷ [])) in
    let on : decode e l ≡ Ok ((gs ++ (f ∷ [])) ++ fs) = r ∙ ap Ok (sym (append_snoc gs f fs)) in
    rw (s.placed, s.bytes, s.title)
    (ap (λ (zs : List Filed). f ∷ zs) (ap (λ (i : ℕ). records_from e l (length fs) i) more ∙ records_from_lem e l (gs ++ (f ∷ [])) fs on))

-- where count answers, they are the archive's
pub records_are : (e : Edition) (l : List ℕ) (n : ℕ) → count_of e l ≡ Ok n → decode e l ≡ Ok (records_from e l n 0)
unfolding count_of
records_are e l n = go (decode e l) refl
  where
    go : (x : Or (List Filed)) → decode e l ≡ x → and_then x (λ fs. Ok (length fs)) ≡ Ok n → decode e l ≡ Ok (records_from e l n 0)
    go (Err m) r a = false_true (cc)
    go (Ok fs) r a = let z : length fs ≡ n = cc in r ∙ ap Ok (sym (records_from_lem e l [] fs r) ∙ rw z)

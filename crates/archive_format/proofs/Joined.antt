-- Laws of specs/Joined.antt: Two lists of records, one after the other: their titles, numbers, shapes and bytes; the first of a fit list is fit.
use Rattle.std.specs.Prelude.{◌+◌, ◌≤◌, ◌≡◌, true, List, ◌++◌, length}
use Rattle.std.proofs.Common.{arith, sym, ◌∙◌, length-append}
use Rattle.refusal.specs.Refusal.{both}
use Rattle.archive_format.specs.declared.Edition.{Edition}
use Rattle.archive_format.specs.Archive.{Filed, body, encode, titled, rising, last_number}
use Rattle.archive_format.specs.Decoded.{Fit}
use Rattle.archive_format.proofs.Encoded.{length_encode}
use Rattle.archive_format.specs.Joined.{titled_append, rising_append, shaped_parts, body_append}

-- more records never have fewer bytes
pub length_more : (e : Edition) (fs gs : List Filed) → length (encode e fs) ≤ length (encode e (fs ++ gs))
length_more e fs gs =
    let b : length (body (fs ++ gs)) ≡ length (body fs) + length (body gs) = rw (body_append fs gs) (length-append (body fs) (body gs)) in
    omega (arith, length_encode e fs, length_encode e (fs ++ gs), length-append fs gs)

module _ (e : Edition) (fs gs : List Filed) (f : Fit e (fs ++ gs)) where
  titles_both : (titled fs ≡ true) × (titled gs ≡ true)
  titles_both = both _ _ (sym (titled_append fs gs) ∙ f.titles)

  rises_both : (rising 0 fs ≡ true) × (rising (last_number 0 fs) gs ≡ true)
  rises_both = both _ _ (sym (rising_append 0 fs gs) ∙ f.risen)

  pub fit_first : Fit e fs
  fit_first =
      record {
        shaped = (shaped_parts e.size fs gs f.shaped).0;
        titles = titles_both.0;
        risen = rises_both.0;
        many = omega (arith, f.many, length-append fs gs);
      }

  -- what comes after it
  pub fit_titles : titled gs ≡ true
  fit_titles = titles_both.1

  pub fit_rises : rising (last_number 0 fs) gs ≡ true
  fit_rises = rises_both.1

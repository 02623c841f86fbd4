-- Laws of specs/Adding.antt: Written reads back: where adding accepts, the new archive reads as the old records, in order, and the new one;
use Rattle.std.specs.Prelude.{ℕ, ◌+◌, ◌≤◌, ◌≡◌, refl, true, List, [], ◌∷◌, ◌++◌, leb, ltb, length, Ok, Err}
use Rattle.std.proofs.Common.{arith, ◌∙◌, leb-true, ltb-true, eqb-true, le-leb, lt-ltb, eq-eqb, ne_eqb}
use Rattle.std.proofs.Math.Path.{sym, ap}
use Rattle.std.proofs.Math.ListN.{length-append}
use Rattle.std.proofs.Math.Seq.{append_snoc}
use Rattle.refusal.specs.declared.Refusal.TheVariants.{Record}
use Rattle.refusal.specs.Refusal.{Or, need, and_then, need_passed, need_rest, both, false_true}
use Rattle.octets.specs.Octets.{word4}
use Rattle.archive_format.specs.declared.Edition.{Edition}
use Rattle.archive_format.specs.Archive.{title_limit, Filed, record_number, body, encode, printables, titled, rising, last_number}
use Rattle.archive_format.specs.Archive.{filed_at, decode, count_of, place_of, find_of, single, add_to, add_of}
use Rattle.archive_format.specs.Decoded.{Shaped, Fit}
use Rattle.archive_format.proofs.Decoded.{decoded_is_fit}
use Rattle.archive_format.proofs.Encoded.{encoding_reads}
use Rattle.archive_format.specs.Joined.{titled_append, rising_append, shaped_append, shaped_parts}
use Rattle.archive_format.proofs.Joined.{length_more, fit_first, fit_titles, fit_rises}
use Rattle.archive_format.specs.Finding.{lookup, lookup_more, lookup_after, place_more}
use Rattle.archive_format.proofs.Finding.{find_is, absent_is, find_absent, title_is, find_more}
use Rattle.archive_format.proofs.Records.{record_is, found_is}
use Rattle.archive_format.specs.Adding.{Accepts, Kept, Added}

pub fit_more : (e : Edition) (fs : List Filed) (b t : List ℕ) → Fit e fs → Accepts e fs b t → Fit e (fs ++ single b t)
unfolding titled rising
fit_more e fs b t f w =
    record {
      shaped = shaped_append e.size fs (single b t) f.shaped (w.sized, w.short, tt);
      titles = titled_append fs (single b t) ∙ rw (f.titles, w.clean);
      risen = rising_append 0 fs (single b t) ∙ rw (f.risen, lt-ltb _ _ w.above);
      many = simp length-append (omega (arith, w.free));
    }

-- what is answered was accepted, and is the encoding of the list with the record
pub accepted : (e : Edition) (fs : List Filed) (b t : List ℕ) (room : ℕ) (new : List ℕ) → add_to e b t room fs ≡ Ok new
    → Accepts e fs b t × (new ≡ encode e (fs ++ single b t))
unfolding add_to
accepted e fs b t room new a6 =
    let a4 : _ = need_rest _ _ _ _ a6 in
    let a5 : _ = need_rest _ _ _ _ a4 in
    let a17 : _ = need_rest _ _ _ _ a5 in
    let a18 : _ = need_rest _ _ _ _ a17 in
    let title : (leb (length t) title_limit ≡ true) × (printables t ≡ true) = both _ _ (need_passed _ _ _ _ a4) in
    let accepts : Accepts e fs b t = record {
      sized = eqb-true _ _ (need_passed _ _ _ _ a6);
      short = leb-true _ _ title.0;
      clean = title.1;
      above = ltb-true _ _ (need_passed _ _ _ _ a5);
      free = ltb-true _ _ (need_passed _ _ _ _ a18);
    } in
    (accepts, cc (need_rest _ _ _ _ a18))

module _ (e : Edition) (l b t new : List ℕ) (fs : List Filed) (old : decode e l ≡ Ok fs) (more : decode e new ≡ Ok (fs ++ single b t)) where
  keep : (n p : ℕ) → find_of e l n ≡ Ok p → Kept e l new n p
  unfolding find_of
  keep n p f =
      let again : find_of e new n ≡ Ok p = rw more (find_more e.size 0 fs (single b t) n p (rw old at f)) in
      let here : lookup (fs ++ single b t) n ≡ Ok (filed_at e.size l p) = lookup_more fs (single b t) n (filed_at e.size l p) (find_is e l fs n p old f) in
      let there : lookup (fs ++ single b t) n ≡ Ok (filed_at e.size new p) = find_is e new (fs ++ single b t) n p more again in
      let same : filed_at e.size new p ≡ filed_at e.size l p = cc in
      record {
        found = again;
        bytes = ap (λ (z : Filed). z.bytes) same;
        title = title_is e new n p again ∙ ap (λ (z : Filed). z.title) same ∙ sym (title_is e l n p f);
      }

  -- a number that the old archive has not, and the record has not
  still_absent : (n : ℕ) → (word4 b 0 ≡ n → ⊥) → find_of e l n ≡ Err Record → find_of e new n ≡ Err Record
  unfolding lookup
  still_absent n other gone =
      find_absent e new (fs ++ single b t) n Record more (lookup_after fs (single b t) n Record (absent_is e l fs n Record old gone) ∙ rw (ne_eqb _ _ other))

  place_kept : (i p : ℕ) → place_of e l i ≡ Ok p → place_of e new i ≡ Ok p
  unfolding place_of
  place_kept i p h = rw more (place_more e.size 0 fs (single b t) i p (rw old at h))

  counted : count_of e new ≡ Ok (length fs + 1)
  unfolding count_of
  counted = rw (more, length-append fs (single b t))

  read_back : Added e l b t new
  read_back =
      let f : Filed = record { bytes = b; title = t } in
      let found : find_of e new (word4 b 0) ≡ Ok (length (body fs)) = found_is e new fs f [] more in
      let same : filed_at e.size new (length (body fs)) ≡ f = record_is e new fs f [] more in
      record {
        fs = fs;
        old = old;
        more = more;
        count = counted;
        found = found;
        bytes = ap (λ (z : Filed). z.bytes) same;
        title = title_is e new (word4 b 0) (length (body fs)) found ∙ ap (λ (z : Filed). z.title) same;
        kept = keep;
        placed = place_kept;
        absent = still_absent;
      }

pub added : (e : Edition) (l b t : List ℕ) (room : ℕ) (new : List ℕ) → add_of e l b t room ≡ Ok new → Added e l b t new
unfolding add_of
added e l b t room new a = go (decode e l) refl a
  where
    go : (x : Or (List Filed)) → decode e l ≡ x → and_then x (λ fs. add_to e b t room fs) ≡ Ok new → Added e l b t new
    go (Err n) r a = false_true (cc)
    go (Ok fs) r a =
        let w : Accepts e fs b t × (new ≡ encode e (fs ++ single b t)) = accepted e fs b t room new a in
        let f : Fit e fs = decoded_is_fit e l fs r in
        read_back e l b t new fs r (rw w.1 (encoding_reads e (fs ++ single b t) (fit_more e fs b t f w.0)))

-- ---- the records of a fit list are accepted in turn

-- adding accepts what it asks for, where the buffer holds the new archive
accepts : (e : Edition) (l : List ℕ) (fs : List Filed) (b t : List ℕ) (room : ℕ) → decode e l ≡ Ok fs → Accepts e fs b t
    → length (encode e (fs ++ single b t)) ≤ room → add_of e l b t room ≡ Ok (encode e (fs ++ single b t))
unfolding add_of add_to need
accepts e l fs b t room r w h = rw (r, eq-eqb _ _ w.sized, le-leb _ _ w.short, w.clean, lt-ltb _ _ w.above, le-leb _ _ h, lt-ltb _ _ w.free)

-- the next record of a fit list
pub next_accepted : (e : Edition) (fs : List Filed) (g : Filed) (gs : List Filed) (room : ℕ) → Fit e (fs ++ (g ∷ gs))
    → length (encode e (fs ++ (g ∷ gs))) ≤ room → add_of e (encode e fs) g.bytes g.title room ≡ Ok (encode e (fs ++ (g ∷ [])))
unfolding titled rising
next_accepted e fs g gs room f h =
    let s : Shaped e.size fs × Shaped e.size (g ∷ gs) = shaped_parts e.size fs (g ∷ gs) f.shaped in
    let titles : (printables g.title ≡ true) × (titled gs ≡ true) = both _ _ (fit_titles e fs (g ∷ gs) f) in
    let rises : (ltb (last_number 0 fs) (record_number g) ≡ true) × (rising (record_number g) gs ≡ true) = both _ _ (fit_rises e fs (g ∷ gs) f) in
    let w : Accepts e fs g.bytes g.title = record {
      sized = s.1.0;
      short = s.1.1;
      clean = titles.0;
      above = ltb-true _ _ rises.0;
      free = omega (arith, f.many, length-append fs (g ∷ gs));
    } in
    let enough : length (encode e (fs ++ (g ∷ []))) ≤ room = omega (arith, rw (append_snoc fs g gs) at (length_more e (fs ++ (g ∷ [])) gs)) in
    accepts e (encode e fs) fs g.bytes g.title room (encoding_reads e fs (fit_first e fs (g ∷ gs) f)) w enough

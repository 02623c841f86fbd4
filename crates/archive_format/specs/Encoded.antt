-- The encoding of a fit list reads as that list.
use Rattle.std.specs.Prelude.{ℕ, suc, ◌+◌, ◌*◌, ◌≤◌, ◌≡◌, refl, true, List, [], ◌∷◌, ◌++◌, length, take, drop, get_or}
use Rattle.std.proofs.Common.{arith, sym, ap, ◌∙◌, append_assoc, length-append, drop-drop, get_or-drop, take_at, drop_at, le-leb, eq-eqb}
use Rattle.std.proofs.lemmas.List.{get_or_at}
use Rattle.octets.specs.Octets.{word2, bytes2}
use Rattle.archive_format.specs.declared.Edition.{Edition}
use Rattle.archive_format.specs.Archive.{title_limit, Filed, body, places, place_after}
use Rattle.archive_format.specs.Archive.{next_at, filed_at, filed_from, runs}
use Rattle.archive_format.specs.Words.{word_of}
use Rattle.archive_format.specs.Decoded.{Shaped}

module _ (size : ℕ) (f : Filed) (l : List ℕ) (at : ℕ) (r : List ℕ) (hs : length f.bytes ≡ size)
    (h : drop at l ≡ f.bytes ++ (length f.title ∷ (f.title ++ r))) where
  pub laid_length : get_or l (at + size) 0 ≡ length f.title
  laid_length = sym (get_or-drop at l size 0) ∙ ap (λ (z : List ℕ). get_or z size 0) h ∙ get_or_at f.bytes (length f.title) (f.title ++ r) 0 size hs

  laid_title : drop (at + size + 1) l ≡ f.title ++ r
  laid_title =
      sym (drop-drop 1 (at + size) l)
      ∙ ap (λ (z : List ℕ). drop 1 z)
      (sym (drop-drop size at l) ∙ ap (λ (z : List ℕ). drop size z) h ∙ drop_at f.bytes (length f.title ∷ (f.title ++ r)) size hs)

  laid_next : drop (next_at size l at) l ≡ r
  laid_next =
      let n : ℕ = length f.title in
      rw laid_length (sym (drop-drop n (at + size + 1) l) ∙ ap (λ (z : List ℕ). drop n z) laid_title ∙ drop_at f.title r n refl)

  pub laid_record : filed_at size l at ≡ f
  laid_record =
      let b : take size (drop at l) ≡ f.bytes = ap (λ (z : List ℕ). take size z) h ∙ take_at f.bytes (length f.title ∷ (f.title ++ r)) size hs in
      let t : take (get_or l (at + size) 0) (drop (at + size + 1) l) ≡ f.title =
      rw (laid_length, laid_title) (take_at f.title r (length f.title) refl) in
      rw (b, t)

pub record Runs (size : ℕ) (fs : List Filed) (l : List ℕ) (t at q : ℕ) : Type 0 where
  pub run : runs size (length fs) l t at q ≡ true
  pub held : filed_from size (length fs) l at ≡ fs

pub encoded_runs : (size : ℕ) (fs : List Filed) (l : List ℕ) (t at q : ℕ) (x y : List ℕ) → Shaped size fs
    → drop at l ≡ body fs ++ x → drop q l ≡ places size at fs ++ y → at + length (body fs) ≡ t → Runs size fs l t at q
unfolding body places runs filed_from
encoded_runs size [] l t at q x y s hb hp ht = record { run = eq-eqb at t (omega arith); held = refl }
encoded_runs size (f ∷ fs) l t at q x y s hb hp ht =
    let h : drop at l ≡ f.bytes ++ (length f.title ∷ (f.title ++ (body fs ++ x))) = hb ∙ simp append_assoc in
    let n : get_or l (at + size) 0 ≡ length f.title = laid_length size f l at (body fs ++ x) s.0 h in
    let len : at + (length f.bytes + suc (length f.title + length (body fs))) ≡ t = simp length-append at ht in
    let next : next_at size l at + length (body fs) ≡ t = omega (arith, s.0) in
    let p : word2 l q ≡ at = word_of l q at (places size (place_after size at f) fs ++ y) hp in
    let q2 : drop (q + 2) l ≡ places size (next_at size l at) fs ++ y =
    sym (drop-drop 2 q l) ∙ ap (λ (z : List ℕ). drop 2 z) hp ∙ ap (λ (z : ℕ). places size (at + size + 1 + z) fs ++ y) (sym n) in
    let ih : Runs size fs l t (next_at size l at) (q + 2) =
    encoded_runs size fs l t (next_at size l at) (q + 2) x y s.2 (laid_next size f l at (body fs ++ x) s.0 h) q2 next in
    let short : get_or l (at + size) 0 ≤ title_limit = omega (arith, s.1) in
    let fits : next_at size l at ≤ t = omega arith in
    record {
      run = rw (eq-eqb _ _ p, le-leb _ _ short, le-leb _ _ fits) ih.run;
      held = rw (laid_record size f l at (body fs ++ x) s.0 h, ih.held);
    }

pub length_places : (size p : ℕ) (fs : List Filed) → length (places size p fs) ≡ 2 * length fs
unfolding places
length_places size p [] = refl
length_places size p (f ∷ fs) = omega (arith, length_places size (place_after size p f) fs)

abbrev pub ending : Edition → List Filed → List ℕ
ending e fs = bytes2 (length fs) ++ (bytes2 (length (body fs)) ++ (e.first ∷ e.second ∷ []))

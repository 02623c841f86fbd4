-- Adding's answers, by what opening answered and by each test in turn.
use Rattle.std.specs.Prelude.{ℕ, ◌+◌, ◌*◌, ◌≤◌, ◌<◌, ◌≡◌, refl, Bool, true, false, eqb, List, [], ◌∷◌, ◌++◌, leb, ltb, length, take, drop, Ok, Err}
use Rattle.std.proofs.Common.{arith, sym, ap, ◌∙◌, zero-add, append_assoc, append-nil, length-append, take_at, leb-true, eqb-true}
use Rattle.std.proofs.Math.Nat.{mul-le-mul}
use Rattle.refusal.specs.declared.Refusal.TheVariants.{Title, Order, Record, BufferRoom, Full}
use Rattle.refusal.specs.declared.Refusal.{Refusal}
use Rattle.refusal.specs.Refusal.{Or, need, both}
use Rattle.octets.specs.Octets.{word4, bytes2, word2_bound}
use Rattle.archive_format.specs.declared.Edition.{Edition}
use Rattle.archive_format.specs.Sized.{Sized}
use Rattle.archive_format.specs.Archive.{record_limit, title_limit, Filed, body, place_after, places, encode, title_fits, filed_from}
use Rattle.archive_format.specs.Archive.{single, add_to, add_of, Writes}
use Rattle.archive_format.specs.Words.{Bytes}
use Rattle.archive_format.specs.Decoded.{Shaped, Fit, body_laid, places_laid}
use Rattle.archive_format.proofs.Decoded.{decoded_is_fit}
use Rattle.archive_format.specs.Encoded.{length_places}
use Rattle.archive_format.proofs.Encoded.{length_encode}
use Rattle.archive_format.specs.Sizes.{body_bound}
use Rattle.archive_format.specs.Joined.{body_append, body_next}
use Rattle.archive_open.specs.Opened.{Held, held_run, held_fits}
use Rattle.buffer.specs.Buffer.{WroteAt}
use Rattle.buffer.proofs.Pieces.{wrote_fits}
use Rattle.archive_write.specs.Writing.{record_bytes, grown, record_length}
use Rattle.archive_add.specs.Adds.{Adds}

-- ---- the encoding of one record more

body_more : (fs : List Filed) (b t : List ℕ) → body (fs ++ single b t) ≡ body fs ++ record_bytes b t
unfolding body
body_more fs b t = body_append fs (single b t) ∙ rw (append-nil t)

places_more : (size p : ℕ) (fs : List Filed) (b t : List ℕ) → Shaped size fs
    → places size p (fs ++ single b t) ≡ places size p fs ++ bytes2 (p + length (body fs))
unfolding places body
places_more size p [] b t s = let e : p ≡ p + 0 = omega arith in ap (λ (z : ℕ). bytes2 z) e
places_more size p (f ∷ fs) b t s =
    ap (λ (z : List ℕ). bytes2 p ++ z)
    (places_more size (place_after size p f) fs b t s.2
    ∙ ap (λ (z : ℕ). places size (place_after size p f) fs ++ bytes2 z) (body_next size p f fs s.0))

-- the length of an archive with one record more
abbrev pub more_length : ℕ → ℕ → ℕ → ℕ → ℕ
more_length size count t title = t + size + 1 + title + 2 * count + 8

module _ (e : Edition) (l : List ℕ) {count t last : ℕ} (h : Held e l count t last) where
  counted : count ≡ length h.fs
  counted = h.count_is ∙ h.read.count

  reached : t ≡ length (body h.fs)
  reached = h.trailer_is ∙ h.read.trailer

  fit : Fit e h.fs
  fit = decoded_is_fit e l h.fs h.is

  -- so many records with titles of 40 bytes reach no further
  bound : t ≤ count * (e.size + 1 + title_limit)
  bound = rw (counted, reached) (body_bound e.size h.fs fit.shaped)

  -- the old archive is small, whatever the buffer
  pub held_small : Sized e.size → t + e.size + 2 * count ≤ 66134
  held_small fit =
      let few : count ≤ record_limit = rw h.count_is h.read.many in
      let wide : e.size + 1 + title_limit ≤ 127 = omega (arith, fit) in
      omega (arith, bound, mul-le-mul few wide)

  -- two bytes hold the new trailer's place
  pub held_next : (n : ℕ) → Sized e.size → count < record_limit → n ≤ title_limit → t + e.size + 1 + n < word2_bound
  held_next n fit m s =
      let few : count + 1 ≤ record_limit = omega arith in
      let wide : e.size + 1 + title_limit ≤ 127 = omega (arith, fit) in
      omega (arith, bound, mul-le-mul few wide)

  module _ (b ti : List ℕ) where
    body_length : length (body (h.fs ++ single b ti)) ≡ t + length (record_bytes b ti)
    body_length = rw (body_more h.fs b ti, length-append (body h.fs) (record_bytes b ti), reached)

    more_count : length (h.fs ++ single b ti) ≡ count + 1
    more_count = simp length-append (omega (arith, counted))

    more_length_lem : length b ≡ e.size → length (encode e (h.fs ++ single b ti)) ≡ more_length e.size count t (length ti)
    more_length_lem sized = omega (arith, length_encode e (h.fs ++ single b ti), body_length, record_length b ti, more_count, sized)

    -- what is written is the encoding
    grown_is : Bytes l → grown e l count t b ti ≡ encode e (h.fs ++ single b ti)
    unfolding grown encode
    grown_is hb =
        let w : t ≤ length l = omega (arith, held_fits e l h) in
        let w2 : t + 2 * count ≤ length l = omega (arith, held_fits e l h) in
        let held : filed_from e.size count l 0 ≡ h.fs = rw h.count_is h.read.held in
        let bl : l ≡ body h.fs ++ drop t l = rw held at (body_laid e.size count l t 0 t w (held_run e l h)) in
        let pl : drop t l ≡ places e.size 0 h.fs ++ drop (t + 2 * count) l = rw held at (places_laid e.size count l t 0 t hb w w2 (held_run e l h)) in
        let bt : take t l ≡ body h.fs = ap (λ (z : List ℕ). take t z) bl ∙ take_at (body h.fs) (drop t l) t (sym reached) in
        let lp : length (places e.size 0 h.fs) ≡ 2 * count = length_places e.size 0 h.fs ∙ ap (λ (z : ℕ). 2 * z) (sym counted) in
        let pt : take (2 * count) (drop t l) ≡ places e.size 0 h.fs =
        ap (λ (z : List ℕ). take (2 * count) z) pl ∙ take_at (places e.size 0 h.fs) (drop (t + 2 * count) l) (2 * count) lp in
        let z : 0 + length (body h.fs) ≡ t = omega (arith, reached) in
        rw (bt, pt, more_count, body_length, body_more h.fs b ti, places_more e.size 0 h.fs b ti fit.shaped, z) (simp append_assoc)

-- ---- the answers

-- a test behind which two answers agree where it holds
need_if : {A : Type 0} (r : Refusal) (t : Bool) {x y : Or A} → (t ≡ true → x ≡ y) → need r t x ≡ need r t y
unfolding need
need_if r true f = f refl
need_if r false f = refl

-- a refusal, with the buffer as it was
pub refused_as : {x : Or (List ℕ)} {out : List ℕ} {r : Or ℕ} (m : Refusal) → r ≡ Err m → x ≡ Err m → Writes x out r out
refused_as m e f = rw (e, f) (record { answer = refl; buffer = refl })

pub short_title : (ti : List ℕ) → title_fits ti ≡ true → length ti ≤ title_limit
short_title ti f = leb-true _ _ (both _ _ f).0

module _ {e : Edition} {l : List ℕ} (b ti : List ℕ) {count t last : ℕ} (h : Held e l count t last) (hb : Bytes l) where
  -- the tests in order, by what is known of the archive; behind them is what is written
  pub add_tests : (room : ℕ) → add_of e l b ti room
      ≡ need Record (eqb (length b) e.size)
      (need Title (title_fits ti)
      (need Order (ltb last (word4 b 0))
      (need BufferRoom (leb (more_length e.size count t (length ti)) room)
      (need Full (ltb count record_limit)
      (Ok (grown e l count t b ti))))))
  unfolding add_of add_to
  add_tests room =
      rw h.is
      (need_if Record (eqb (length b) e.size)
      (λ s. let sized : length b ≡ e.size = eqb-true _ _ s in
      rw (← h.last_is, more_length_lem e l h b ti sized, ← counted e l h, ← grown_is e l h b ti hb)))

  pub add_done : (out : List ℕ) → length b ≡ e.size → more_length e.size count t (length ti) ≤ length out
      → Ok (grown e l count t b ti) ≡ add_of e l b ti (length out)
      → {r : ℕ} {out' : List ℕ} → WroteAt out 0 (grown e l count t b ti) out' r → Adds e l b ti out (Ok r) out'
  add_done out sized room y w =
      let long : length (grown e l count t b ti) ≡ more_length e.size count t (length ti) = rw (grown_is e l h b ti hb) (more_length_lem e l h b ti sized) in
      let f : _ = wrote_fits w (omega (arith, long)) in
      rw (← y) (record { answer = ap Ok (f.1 ∙ zero-add (length (grown e l count t b ti))); buffer = f.0 ∙ rw zero-add })

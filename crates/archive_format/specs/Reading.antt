-- What an archive that reads is known to hold: one record at a place, records that run to the trailer, and every test passed.
use Rattle.std.specs.Prelude.{ℕ, zero, suc, ◌+◌, ◌*◌, ◌-◌, ◌≤◌, ◌≡◌, refl, true, List, ◌∷◌, ◌++◌, leb, eqb, length, take, drop, get_or, Ok}
use Rattle.std.proofs.Common.{add-zero, add-one, arith, sym, ap, ◌∙◌, length-take, length-drop, length-append, take-append-drop, drop-cons, drop-drop}
use Rattle.std.proofs.Common.{get_or-take, get_or-drop, leb-true, eqb-true}
use Rattle.refusal.specs.Refusal.{need_passed, need_rest, both}
use Rattle.octets.specs.Octets.{word2, word4}
use Rattle.archive_format.specs.declared.Edition.{Edition}
use Rattle.archive_format.specs.Archive.{record_limit, title_limit, Filed, record_number, body, titled, rising, next_at, filed_at, filed_from, runs}
use Rattle.archive_format.specs.Archive.{decode_body, count_at, trailer_at, marked, decode}

-- ---- one record

pub number_at : (size : ℕ) (l : List ℕ) (at : ℕ) → 4 ≤ size → record_number (filed_at size l at) ≡ word4 l at
unfolding word4
number_at size l at h =
    let at-0 : get_or (take size (drop at l)) 0 0 ≡ get_or l (at + 0) 0 = get_or-take size (drop at l) 0 0 (omega arith) ∙ get_or-drop at l 0 0 in
    let at_1 : get_or (take size (drop at l)) 1 0 ≡ get_or l (at + 1) 0 = get_or-take size (drop at l) 1 0 (omega arith) ∙ get_or-drop at l 1 0 in
    let at-2 : get_or (take size (drop at l)) 2 0 ≡ get_or l (at + 2) 0 = get_or-take size (drop at l) 2 0 (omega arith) ∙ get_or-drop at l 2 0 in
    let at-3 : get_or (take size (drop at l)) 3 0 ≡ get_or l (at + 3) 0 = get_or-take size (drop at l) 3 0 (omega arith) ∙ get_or-drop at l 3 0 in
    rw (at-0, at_1, at-2, at-3, add-zero)

module _ (size : ℕ) (l : List ℕ) (at : ℕ) (h : next_at size l at ≤ length l) where
  pub title_length : length (filed_at size l at).title ≡ get_or l (at + size) 0
  title_length = simp (length-take, length-drop) (omega arith)

  pub bytes_length : length (filed_at size l at).bytes ≡ size
  bytes_length = simp (length-take, length-drop) (omega arith)

  -- the bytes from a place on are those of the record there, then the rest
  pub record_split : drop at l ≡ (filed_at size l at).bytes ++ (get_or l (at + size) 0 ∷ ((filed_at size l at).title ++ drop (next_at size l at) l))
  record_split =
      sym (take-append-drop size (drop at l))
      ∙ ap (λ (r : List ℕ). take size (drop at l) ++ r)
      (drop-drop size at l ∙ drop-cons l (at + size) 0 (omega arith)
      ∙ ap (λ (r : List ℕ). get_or l (at + size) 0 ∷ r)
      (rw (← add-one) (sym (take-append-drop (get_or l (at + size) 0) (drop (at + size + 1) l))
      ∙ ap (λ (r : List ℕ). take (get_or l (at + size) 0) (drop (at + size + 1) l) ++ r) (drop-drop (get_or l (at + size) 0) (at + size + 1) l))))

-- ---- records that run

pub record Ran (size k : ℕ) (l : List ℕ) (t at q : ℕ) : Type 0 where
  pub placed : word2 l q ≡ at
  pub short : get_or l (at + size) 0 ≤ title_limit
  pub within : next_at size l at ≤ t
  pub on : runs size k l t (next_at size l at) (q + 2) ≡ true

-- what one more record that runs says of the first
pub ran : {size k : ℕ} {l : List ℕ} {t at q : ℕ} → runs size (suc k) l t at q ≡ true → Ran size k l t at q
unfolding runs
ran {size} {k} {l} {t} {at} {q} e =
    let a : _ = both _ _ e in
    let b : _ = both _ _ a.0 in
    let d : _ = both _ _ b.1 in
    record { placed = eqb-true _ _ b.0; short = leb-true _ _ d.0; within = leb-true _ _ d.1; on = a.1 }

pub filed_length : (size k : ℕ) (l : List ℕ) (at : ℕ) → length (filed_from size k l at) ≡ k
unfolding filed_from
filed_length size zero l at = refl
filed_length size (suc k) l at = ap suc (filed_length size k l (next_at size l at))

-- records that run end where the trailer stands
pub reach : (size k : ℕ) (l : List ℕ) (t at q : ℕ) → t ≤ length l → runs size k l t at q ≡ true
    → at + length (body (filed_from size k l at)) ≡ t
unfolding filed_from body runs
reach size zero l t at q h e = omega (arith, eqb-true at t e)
reach size (suc k) l t at q h e =
    let r : Ran size k l t at q = ran e in
    let n : next_at size l at ≤ length l = omega arith in
    simp length-append (omega (arith, reach size k l t (next_at size l at) (q + 2) h r.on, title_length size l at n, bytes_length size l at n))

-- ---- an archive that reads

pub record Reads (e : Edition) (l : List ℕ) (fs : List Filed) : Type 0 where
  pub six : 6 ≤ length l
  pub mark : get_or l (length l - 2) 0 ≡ e.first
  pub mark' : get_or l (length l - 1) 0 ≡ e.second
  pub many : count_at l ≤ record_limit
  pub sized : trailer_at l + 2 * count_at l + 6 ≡ length l
  pub run : runs e.size (count_at l) l (trailer_at l) 0 (trailer_at l) ≡ true
  pub held : filed_from e.size (count_at l) l 0 ≡ fs
  pub titles : titled fs ≡ true
  pub risen : rising 0 fs ≡ true
  pub count : count_at l ≡ length fs
  pub trailer : trailer_at l ≡ length (body fs)

pub reads : (e : Edition) (l : List ℕ) (fs : List Filed) → decode e l ≡ Ok fs → Reads e l fs
unfolding decode decode_body
reads e l fs r =
    let r2 : _ = need_rest _ _ _ _ r in
    let r3 : _ = need_rest _ _ _ _ r2 in
    let r4 : _ = need_rest _ _ _ _ r3 in
    let r5 : _ = need_rest _ _ _ _ r4 in
    let a1 : (leb 6 (length l) ≡ true) × (marked e l ≡ true) = both _ _ (need_passed _ _ _ _ r) in
    let a2 : (eqb (get_or l (length l - 2) 0) e.first ≡ true) × (eqb (get_or l (length l - 1) 0) e.second ≡ true) = both _ _ a1.1 in
    let b1 : (leb (count_at l) record_limit ≡ true) × (eqb (trailer_at l + 2 * count_at l + 6) (length l) ≡ true) = both _ _ (need_passed _ _ _ _ r2) in
    let run : runs e.size (count_at l) l (trailer_at l) 0 (trailer_at l) ≡ true = need_passed _ _ _ _ r3 in
    let sized : trailer_at l + 2 * count_at l + 6 ≡ length l = eqb-true _ _ b1.1 in
    let held : filed_from e.size (count_at l) l 0 ≡ fs = cc (need_rest _ _ _ _ r5) in
    let within : trailer_at l ≤ length l = omega arith in
    let reached : trailer_at l ≡ length (body (filed_from e.size (count_at l) l 0)) =
    omega (arith, reach e.size (count_at l) l (trailer_at l) 0 (trailer_at l) within run) in
    record {
      six = leb-true _ _ a1.0;
      mark = eqb-true _ _ a2.0;
      mark' = eqb-true _ _ a2.1;
      many = leb-true _ _ b1.0;
      sized = sized;
      run = run;
      held = held;
      titles = rw held at (need_passed _ _ _ _ r4);
      risen = rw held at (need_passed _ _ _ _ r5);
      count = sym (filed_length e.size (count_at l) l 0) ∙ ap length held;
      trailer = reached ∙ ap (λ (z : List Filed). length (body z)) held;
    }

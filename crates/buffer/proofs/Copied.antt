-- As much of a piece as there is room for, copied into the middle of the buffer, is the piece put there.
use Rattle.std.specs.Prelude.{ℕ, replicate, ◌+◌, ◌-◌, ◌≤◌, ◌<◌, min, Bool, true, false, ◌≡◌, refl, List, [], ◌∷◌, length, take, drop, leb}
use Rattle.std.proofs.Common.{arith, sym, ap, ◌∙◌, append_assoc, leb-true, leb-false, length-drop, slice_set}
use Rattle.std.proofs.Math.ListN.{drop_of_length-le, length-take}
use Rattle.std.proofs.lemmas.List.{take-append-drop, take-replicate, length-replicate}
use Rattle.std.proofs.lemmas.List.Edits.{sets, sets-eq}
use Rattle.std.proofs.Math.Seq.{length-sets}
use borrow.Rule.Slice.PartMut.{put_mid, Post-is}
use Rattle.buffer.specs.Buffer.{cursor, put, next_place}
use Rattle.buffer.specs.Pieces.{sets_out, sets_append}

wrote : (b : List ℕ) (at : ℕ) (piece : List ℕ) {b' : List ℕ} {p : ℕ} → b' ≡ sets b at piece → p ≡ next_place b at piece →
    put (cursor b at) piece ≡ cursor b' p
unfolding put
wrote b at piece e f = rw (e, f)

pub past : (b : List ℕ) (at : ℕ) (piece : List ℕ) → length b ≤ at → put (cursor b at) piece ≡ cursor b at
unfolding next_place
past b at piece h = wrote _ _ _ (sym (sets_out b at piece (omega arith))) (omega arith)

pub placed : (b : List ℕ) (at byte : ℕ) → at < length b → put (cursor b at) (byte ∷ []) ≡ cursor (slice_set b at byte) (at + 1)
unfolding next_place
placed b at byte h = wrote b at (byte ∷ []) refl (omega arith)

module _ (b : List ℕ) (at : ℕ) (piece : List ℕ) {n : ℕ} (start : at ≤ length b) (most : n ≡ min (length piece) (length b - at)) where
  taken : length (take n piece) ≡ n
  taken = simp length-take (omega (arith, most))

  -- what there is no room for changes nothing
  cut : sets b at piece ≡ sets b at (take n piece)
  cut =
      ap (λ (z : List ℕ). sets b at z) (sym (take-append-drop n piece))
      ∙ sets_append b at (take n piece) (drop n piece) ∙ rw taken (go (leb (length piece) n) refl)
    where
      go : (x : Bool) → leb (length piece) n ≡ x → sets (sets b at (take n piece)) (at + n) (drop n piece) ≡ sets b at (take n piece)
      go true e = rw (drop_of_length-le piece {i = n} (leb-true (length piece) n e))
      go false e = sets_out _ (at + n) (drop n piece) (rw length-sets (omega (arith, leb-false (length piece) n e, most, start)))

  -- the part lent to the copy becomes the front of the piece
  pub copied : {part : List ℕ} → part ≡ take n piece → put (cursor b at) piece ≡ cursor (put_mid at (at + n - at) b part) (at + n)
  unfolding next_place
  copied e =
      let fits : at + length (take n piece) ≤ length b = omega (arith, taken, most, start) in
      let same : put_mid at (at + n - at) b (take n piece) ≡ sets b at (take n piece) =
      rw (Post-is at (at + n) b (omega arith), sets-eq (take n piece) b at fits, taken) (simp append_assoc) in
      wrote b at piece (rw e (same ∙ sym cut)) (omega (arith, most, start))

module _ (b : List ℕ) (at byte count : ℕ) {n : ℕ} (start : at ≤ length b) (most : n ≡ min count (length b - at)) where
  -- the part lent to the filling becomes the front of the run
  pub filled : {part : List ℕ} → part ≡ replicate (length (take (at + n - at) (drop at b))) byte →
      put (cursor b at) (replicate count byte) ≡ cursor (put_mid at (at + n - at) b part) (at + n)
  filled e =
      let long : length (take (at + n - at) (drop at b)) ≡ n = simp (length-take, length-drop) (omega (arith, most, start)) in
      let front : take n (replicate count byte) ≡ replicate n byte = take-replicate n count byte (omega (arith, most)) in
      copied b at (replicate count byte) start (rw length-replicate most) (rw (front, ← long) e)

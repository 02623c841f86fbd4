-- Laws of specs/Pieces.antt: Pieces one after another are one piece; and what a buffer holds where all of it fits.
use Rattle.std.specs.Prelude.{ℕ, ◌+◌, ◌-◌, ◌≤◌, min, max, Bool, true, false, ◌≡◌, refl, List, [], ◌++◌, leb, length, take, drop}
use Rattle.std.proofs.Common.{arith, ap, sym, ◌∙◌, length-append, leb-true, leb-false}
use Rattle.std.proofs.lemmas.List.Edits.{sets, sets-eq}
use Rattle.std.proofs.Math.Seq.{length-sets}
use Rattle.buffer.specs.declared.Writer.{Writer}
use Rattle.buffer.specs.Buffer.{Cursor, cursor, put, next_place, Wrote, WroteAt}
use Rattle.buffer.specs.Pieces.{sets_out, sets_append, AppendingAt, Appending}

by_room : (l : List ℕ) (at i : ℕ) (vs : List ℕ) → at ≤ i → sets l (max at (min i (length l))) vs ≡ sets l i vs
by_room l at i vs le = go (leb i (length l)) refl
  where
    go : (t : Bool) → leb i (length l) ≡ t → sets l (max at (min i (length l))) vs ≡ sets l i vs
    go true h = let q : max at (min i (length l)) ≡ i = omega (arith, leb-true i (length l) h) in rw q
    go false h =
        let q : length l ≤ max at (min i (length l)) = omega (arith, leb-false i (length l) h) in
        sets_out l _ vs q ∙ sym (sets_out l i vs (omega (arith, leb-false i (length l) h)))

pub put_append : (c : Cursor) (a b : List ℕ) → put c (a ++ b) ≡ put (put c a) b
unfolding put next_place
put_append c a b =
    let one : List ℕ = sets c.buffer c.at a in
    let next : ℕ = next_place c.buffer c.at a in
    let e : next_place c.buffer c.at (a ++ b) ≡ next_place one next b = rw (length-sets, length-append) (omega arith) in
    let f : sets c.buffer c.at (a ++ b) ≡ sets one next b =
    sets_append c.buffer c.at a b ∙ sym (rw length-sets at (by_room one c.at (c.at + length a) b (omega arith))) in
    rw e (ap (λ (z : List ℕ). cursor z (next_place one next b)) f)

pub put_nil : (b : List ℕ) (at : ℕ) → put (cursor b at) [] ≡ cursor b at
unfolding put next_place
put_nil b at = let e : max at (min (at + 0) (length b)) ≡ at = omega arith in rw e

-- ---- of any list and place

-- two pieces, one after the other
pub then_at : {b : List ℕ} {at : ℕ} {x b' : List ℕ} {p : ℕ} {y b'' : List ℕ} {q : ℕ} → WroteAt b at x b' p → WroteAt b' p y b'' q → WroteAt b at (x ++ y) b'' q
then_at {b} {at} {x} {y} v w = record { is = w.is ∙ rw (v.is, put_append) }

-- a piece keeps the buffer's length
pub wrote_long : {b : List ℕ} {at : ℕ} {t b' : List ℕ} {p : ℕ} → WroteAt b at t b' p → length b' ≡ length b
unfolding put
wrote_long {b} {at} {t} w = ap (λ (q : Cursor). length q.buffer) w.is ∙ length-sets b at t

-- where the buffer is full nothing more is put, whatever it is
put_full : (b : List ℕ) (p : ℕ) (piece : List ℕ) → length b ≤ p → put (cursor b p) piece ≡ cursor b p
unfolding put next_place
put_full b p piece h = let e : max p (min (p + length piece) (length b)) ≡ p = omega arith in rw (sets_out b p piece h, e)

after_full : {b : List ℕ} {at : ℕ} {x b' : List ℕ} {p : ℕ} {y b'' : List ℕ} {q : ℕ} → WroteAt b at x b' p → length b' ≤ p → WroteAt b' p y b'' q →
    (z : List ℕ) → WroteAt b at (x ++ z) b'' q
after_full {b} {at} {x} {b'} {p} {y} u f v z =
    record { is = v.is ∙ put_full b' p y f ∙ sym (put_append (cursor b at) x z ∙ ap (λ (q : Cursor). put q z) (sym u.is) ∙ put_full b' p z f) }

-- a piece whose end is chosen by how many places the rest of it took: with room those are its length, without room the end is not put
pub ended_by : {b : List ℕ} {at : ℕ} {x b' : List ℕ} {p : ℕ} {b'' : List ℕ} {q : ℕ} (end : ℕ → List ℕ) →
    WroteAt b at x b' p → WroteAt b' p (end (p - at)) b'' q → WroteAt b at (x ++ end (length x)) b'' q
unfolding put next_place
ended_by {b} {at} {x} {b'} {p} {b''} {q} end u v = go (leb (at + length x) (length b)) refl
  where
    place : p ≡ max at (min (at + length x) (length b))
    place = ap (λ (c : Cursor). c.at) u.is

    go : (t : Bool) → leb (at + length x) (length b) ≡ t → WroteAt b at (x ++ end (length x)) b'' q
    go true e = let n : p - at ≡ length x = omega (arith, place, leb-true (at + length x) (length b) e) in then_at u (rw n at v)
    go false e = after_full u (omega (arith, place, wrote_long u, leb-false (at + length x) (length b) e)) v _

pub start_at : (b : List ℕ) (at : ℕ) (whole : List ℕ) → AppendingAt b at whole b at whole
start_at b at whole = record { long = refl; same = refl }

module _ {b₀ : List ℕ} {at : ℕ} {whole b : List ℕ} {p : ℕ} {rest : List ℕ} (r : AppendingAt b₀ at whole b p rest) where
  -- the next piece is the front of the rest
  pub turn_at : {piece b' : List ℕ} {p' : ℕ} → WroteAt b p piece b' p' → (rest' : List ℕ) → rest ≡ piece ++ rest' → AppendingAt b₀ at whole b' p' rest'
  turn_at v rest' e = record { long = wrote_long v ∙ r.long; same = r.same ∙ rw (e, put_append, v.is) }

  pub done_at : rest ≡ [] → WroteAt b₀ at whole b p
  done_at e = record { is = sym (r.same ∙ rw e (put_nil b p)) }

-- where the piece fits: what stands before it, the piece, and what stands after it
pub wrote_fits : {b : List ℕ} {at : ℕ} {t b' : List ℕ} {p : ℕ} → WroteAt b at t b' p → at + length t ≤ length b
    → (b' ≡ take at b ++ t ++ drop (at + length t) b) × (p ≡ at + length t)
unfolding put next_place
wrote_fits {b} {at} {t} w h = (ap (λ (q : Cursor). q.buffer) w.is ∙ sets-eq t b at h, ap (λ (q : Cursor). q.at) w.is ∙ omega arith)

-- the next place does not lie before the piece
pub wrote_on : {b : List ℕ} {at : ℕ} {t b' : List ℕ} {p : ℕ} → WroteAt b at t b' p → at ≤ p
unfolding put next_place
wrote_on {b} {at} {t} {b'} {p} w = let e : p ≡ max at (min (at + length t) (length b)) = ap (λ (q : Cursor). q.at) w.is in omega arith

-- and lies within the buffer
pub wrote_within : {b : List ℕ} {at : ℕ} {t b' : List ℕ} {p : ℕ} → WroteAt b at t b' p → at ≤ length b → p ≤ length b'
unfolding put next_place
wrote_within {b} {at} {t} {b'} {p} w h =
    let e : p ≡ max at (min (at + length t) (length b)) = ap (λ (q : Cursor). q.at) w.is in
    omega (arith, wrote_long w)

-- ---- by a writer

-- what it put is what stands there
pub wrote_at : {t t' : Writer} {x : List ℕ} → Wrote t x t' → WroteAt t.bytes.now t.at x t'.bytes.now t'.at
wrote_at w = record { is = w.is }

-- two calls, one after the other
infixl 5 ◌then◌
pub ◌then◌ : {t t' t'' : Writer} {x y : List ℕ} → Wrote t x t' → Wrote t' y t'' → Wrote t (x ++ y) t''
◌then◌ v w = record { lent = w.lent ∙ v.lent; is = (then_at (wrote_at v) (wrote_at w)).is }

pub appending_start : (t : Writer) (whole : List ℕ) → Appending t whole t whole
appending_start t whole = record { lent = refl; is = start_at t.bytes.now t.at whole }

module _ {t₀ t : Writer} {whole rest : List ℕ} (r : Appending t₀ whole t rest) where
  pub appending_turn : {piece : List ℕ} {t' : Writer} → Wrote t piece t' → (rest' : List ℕ) → rest ≡ piece ++ rest' → Appending t₀ whole t' rest'
  appending_turn v rest' e = record { lent = v.lent ∙ r.lent; is = turn_at r.is (wrote_at v) rest' e }

  pub appending_done : rest ≡ [] → Wrote t₀ whole t
  appending_done e = record { lent = r.lent; is = (done_at r.is e).is }

-- Laws of specs/Laws.antt: Laws of a pair's parts: lengths, the carry around each, the largest, and what they add to.
use Rattle.std.specs.Prelude.{ℕ, zero, suc, ◌+◌, ◌*◌, ◌/◌, ◌≤◌, ◌<◌, Bool, true, false, cond, ◌≡◌, refl, List, [], ◌∷◌, eqb, length, get_or, replicate}
use Rattle.std.proofs.Common.{arith, mod-lt, div-lt_iff_lt-mul, mul-le-mul_left, ap, sym, ne_eqb}
use Rattle.std.proofs.Math.Nat.{div-add-mod, zero-div, zero-mod, div-eq_of_lt-le}
use Rattle.std.proofs.lemmas.List.{length-replicate}
use Rattle.std.proofs.lemmas.Bool.{eqb-false}
use Rattle.lists.specs.Lists.{sum, zeros_at}
use Rattle.pair_parts.specs.PairParts.{part_of, rest_of, parts, carry_after, pair_arrivals, Shared}
use Rattle.pair_parts.specs.Laws.{PartStep}

pub rest_lt : (v w carry a : ℕ) → 0 < w → rest_of v w carry a < w
rest_lt v w carry a pos = mod-lt _ {m = w} pos

-- an arrival's part is no more than the arrival
pub part_le : (v w carry a : ℕ) → v ≤ w → carry < w → part_of v w carry a ≤ a
part_le v w carry a h hc =
    omega (arith, (div-lt_iff_lt-mul {k = w} {x = a * v + carry} {y = suc a} (omega arith)).1 (omega (arith, mul-le-mul_left a h)))

pub parts_length : (v w carry : ℕ) (l : List ℕ) → length (parts v w carry l) ≡ length l
unfolding parts
parts_length v w carry [] = refl
parts_length v w carry (a ∷ l) = ap suc (parts_length v w (rest_of v w carry a) l)

pub parts_le : (v w carry m : ℕ) (l : List ℕ) → v ≤ w → carry < w → ((i : ℕ) → get_or l i 0 ≤ m) → (i : ℕ) → get_or (parts v w carry l) i 0 ≤ m
unfolding parts
parts_le v w carry m [] h hc hl i = omega arith
parts_le v w carry m (a ∷ l) h hc hl zero = omega (arith, part_le v w carry a h hc, hl 0)
parts_le v w carry m (a ∷ l) h hc hl (suc i) =
    parts_le v w (rest_of v w carry a) m l h (rest_lt v w carry a (omega arith)) (λ j. hl (suc j)) i

pub part_step : (v w carry : ℕ) (l : List ℕ) (i : ℕ) → carry < w → i < length l → PartStep v w (get_or l i 0) (get_or (parts v w carry l) i 0)
unfolding parts
part_step v w carry [] i hc hi = absurd (omega arith)
part_step v w carry (a ∷ l) zero hc hi =
    record {
      before = carry;
      after = rest_of v w carry a;
      before_lt = hc;
      after_lt = rest_lt v w carry a (omega arith);
      whole = omega (arith, div-add-mod (a * v + carry) w);
    }
part_step v w carry (a ∷ l) (suc i) hc hi = part_step v w (rest_of v w carry a) l i (rest_lt v w carry a (omega arith)) (omega arith)

pub carry_after_lt : (v w carry : ℕ) (l : List ℕ) → carry < w → carry_after v w carry l < w
unfolding carry_after
carry_after_lt v w carry [] h = h
carry_after_lt v w carry (a ∷ l) h = carry_after_lt v w (rest_of v w carry a) l (rest_lt v w carry a (omega arith))

-- the parts and the last carry are the share of all the arrivals
pub parts_sum : (v w carry : ℕ) (l : List ℕ) → w * sum (parts v w carry l) + carry_after v w carry l ≡ v * sum l + carry
unfolding parts carry_after sum
parts_sum v w carry [] = omega arith
parts_sum v w carry (a ∷ l) = omega (arith, parts_sum v w (rest_of v w carry a) l, div-add-mod (a * v + carry) w)

-- the laws of a pair, where the entry discharges and where it does not
pub pair_parts : (v w : ℕ) (l : List ℕ) → 0 < w → pair_arrivals v w l ≡ parts v w 0 l
unfolding pair_arrivals
pair_parts v w l pos = rw (ne_eqb w 0 (λ e. (omega arith)))

pub pair_none : (v : ℕ) (l : List ℕ) (i : ℕ) → get_or (pair_arrivals v 0 l) i 0 ≡ 0
unfolding pair_arrivals
pair_none v l i = zeros_at (length l) i

-- a pair without a share gets 0 in every step
no_parts : (w : ℕ) (l : List ℕ) → parts 0 w 0 l ≡ replicate (length l) 0
unfolding parts
no_parts w [] = refl
no_parts w (a ∷ l) = let z : a * 0 + 0 ≡ 0 = omega arith in rw (z, zero-div w, zero-mod w, no_parts w l)

pub pair_without : (w : ℕ) (l : List ℕ) → pair_arrivals 0 w l ≡ replicate (length l) 0
unfolding pair_arrivals
pair_without w l = go (eqb w 0)
  where
    go : (b : Bool) → cond b (replicate (length l) 0) (parts 0 w 0 l) ≡ replicate (length l) 0
    go true = refl
    go false = no_parts w l

pub pair_length : (v w : ℕ) (l : List ℕ) → length (pair_arrivals v w l) ≡ length l
unfolding pair_arrivals
pair_length v w l = go (eqb w 0)
  where
    go : (b : Bool) → length (cond b (replicate (length l) 0) (parts v w 0 l)) ≡ length l
    go true = length-replicate (length l) 0
    go false = parts_length v w 0 l

pub pair_le : (v w m : ℕ) (l : List ℕ) → v ≤ w → ((i : ℕ) → get_or l i 0 ≤ m) → (i : ℕ) → get_or (pair_arrivals v w l) i 0 ≤ m
unfolding pair_arrivals
pair_le v w m l h hl i = go (eqb w 0) refl
  where
    go : (b : Bool) → eqb w 0 ≡ b → get_or (cond b (replicate (length l) 0) (parts v w 0 l)) i 0 ≤ m
    go true e = omega (arith, zeros_at (length l) i)
    go false e = let ne = eqb-false w 0 e in parts_le v w 0 m l h (omega arith) hl i

pub pair_shared : (v w : ℕ) (l : List ℕ) → 0 < w → Shared v w (sum l) (sum (pair_arrivals v w l))
pair_shared v w l pos =
    let e = parts_sum v w 0 l in
    rw (pair_parts v w l pos)
    (record { never_above = omega (arith, e); short_by_less = omega (arith, e, carry_after_lt v w 0 l pos) })

-- so it is the whole part of the share
pub pair_sum : (v w : ℕ) (l : List ℕ) → 0 < w → sum (pair_arrivals v w l) ≡ v * sum l / w
pair_sum v w l pos =
    let s = pair_shared v w l pos in
    sym (div-eq_of_lt-le w (omega (arith, s.never_above)) (omega (arith, s.short_by_less)))

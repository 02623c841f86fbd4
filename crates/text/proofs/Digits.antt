-- Laws of specs/Digits.antt: What the digits of a number mean: read in tens they give it back, and they are no more than its size needs.
use Rattle.std.specs.Prelude.{ℕ, zero, suc, ◌+◌, ◌-◌, ◌*◌, ◌/◌, ◌%◌, ◌^◌, ◌≤◌, ◌<◌, Bool, true, false, cond, ◌≡◌, refl, List, [], ◌∷◌, ◌++◌, eqb, length}
use Rattle.std.proofs.Common.{arith, pow-suc, div-lt_iff_lt-mul, length-append, eqb-true}
use Rattle.std.proofs.Math.Nat.{pow-zero}
use Rattle.std.proofs.lemmas.Bool.{eqb-false}
use Rattle.text.specs.Text.{digits, decimal, field}
use Rattle.text.specs.Digits.{reads}

reads_snoc : (n : ℕ) (a : List ℕ) (d : ℕ) → reads n (a ++ (d ∷ [])) ≡ 10 * reads n a + (d - 48)
unfolding reads
reads_snoc n [] d = refl
reads_snoc n (x ∷ a) d = reads_snoc (10 * n + (x - 48)) a d

pub tenth : (k n : ℕ) → n < 10 ^ suc k → n / 10 < 10 ^ k
tenth k n h = (div-lt_iff_lt-mul {k = 10} (omega arith)).1 (rw pow-suc at h)

pub digits_read : (k n : ℕ) → n < 10 ^ k → reads 0 (digits k n) ≡ n
unfolding digits reads
digits_read zero n h = let e : n < 1 = rw pow-zero at h in go e
  where
    go : n < 1 → reads 0 [] ≡ n
    go e = omega arith
digits_read (suc k) n h = go (eqb (n / 10) 0) refl (digits_read k (n / 10) (tenth k n h))
  where
    go : (b : Bool) → eqb (n / 10) 0 ≡ b → reads 0 (digits k (n / 10)) ≡ n / 10
        → reads 0 (cond b ((48 + n % 10) ∷ []) (digits k (n / 10) ++ ((48 + n % 10) ∷ []))) ≡ n
    go true e r = omega (arith, eqb-true (n / 10) 0 e)
    go false e r = rw (reads_snoc, r) (omega arith)

-- what append_decimal writes reads back as its number
pub decimal_read : (n : ℕ) → n < 2 ^ 64 → reads 0 (decimal n) ≡ n
decimal_read n h = digits_read 20 n (omega arith)

-- and has no leading zeros: no more digits than the size of the number needs
pub digits_length : (k j n : ℕ) → n < 10 ^ suc j → length (digits k n) ≤ suc j
unfolding digits
digits_length zero j n h = omega arith
digits_length (suc k) j n h = go j h (λ i. digits_length k i (n / 10)) (eqb (n / 10) 0) refl
  where
    go : (j : ℕ) → n < 10 ^ suc j → ((i : ℕ) → n / 10 < 10 ^ suc i → length (digits k (n / 10)) ≤ suc i)
        → (b : Bool) → eqb (n / 10) 0 ≡ b → length (cond b ((48 + n % 10) ∷ []) (digits k (n / 10) ++ ((48 + n % 10) ∷ []))) ≤ suc j
    go j h r true e = omega arith
    go zero h r false e = absurd (eqb-false (n / 10) 0 e (omega (arith, rw pow-suc at h)))
    go (suc j) h r false e = rw length-append (omega (arith, r j (tenth (suc j) n h)))

digits_most : (k n : ℕ) → length (digits k n) ≤ k
unfolding digits
digits_most zero n = omega arith
digits_most (suc k) n = go (eqb (n / 10) 0) (digits_most k (n / 10))
  where
    go : (b : Bool) → length (digits k (n / 10)) ≤ k → length (cond b ((48 + n % 10) ∷ []) (digits k (n / 10) ++ ((48 + n % 10) ∷ []))) ≤ suc k
    go true h = omega arith
    go false h = rw length-append (omega arith)

-- twenty digits at most
pub field_length : (label : List ℕ) (n : ℕ) → length (field label n) ≤ length label + 20
unfolding field
field_length label n = rw length-append (omega (arith, digits_most 20 n))

-- and no more than the number's size needs
pub field_within : (label : List ℕ) (j n : ℕ) → n < 10 ^ suc j → length (field label n) ≤ length label + suc j
unfolding field
field_within label j n h = rw length-append (omega (arith, digits_length 20 j n h))

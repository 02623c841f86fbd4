-- What is printed of a number are its decimal digits.
use Rattle.std.specs.Prelude.{ℕ, zero, suc, ◌/◌, ◌%◌, ◌^◌, ◌≤◌, ◌<◌, Bool, true, false, ◌≡◌, refl, eqb}
use Rattle.std.proofs.Common.{arith, sym, pow-suc, eqb-true, eq-eqb}
use Rattle.std.proofs.lemmas.Bool.{eqb-false}
use Rattle.std.proofs.lemmas.Fmt.{decimal_digit, decimal_step}
use Rattle.std.specs.Fmt.{decimal as printed}
use Rattle.text.specs.Text.{decimal, digits}
use Rattle.text.proofs.Digits.{tenth}

digit_printed : (k n : ℕ) → n / 10 ≡ 0 → digits (suc k) n ≡ printed n
unfolding digits
digit_printed k n z =
    let one : n % 10 ≡ n = omega arith in
    rw (eq-eqb (n / 10) 0 z, one) (sym (decimal_digit n (omega arith)))

digits_printed : (k n : ℕ) → n < 10 ^ suc k → n < 2 ^ 64 → digits (suc k) n ≡ printed n
unfolding digits
digits_printed zero n h w = digit_printed zero n (omega (arith, rw pow-suc at h))
digits_printed (suc k) n h w = go (eqb (n / 10) 0) refl (digits_printed k (n / 10) (tenth (suc k) n h) (omega arith))
  where
    go : (b : Bool) → eqb (n / 10) 0 ≡ b → digits (suc k) (n / 10) ≡ printed (n / 10) → digits (suc (suc k)) n ≡ printed n
    go true e r = digit_printed (suc k) n (eqb-true (n / 10) 0 e)
    go false e r =
        let more : 10 ≤ n = omega (arith, eqb-false (n / 10) 0 e) in
        rw (e, r) (sym (decimal_step n more w))

pub decimal_printed : (n : ℕ) → n < 2 ^ 64 → printed n ≡ decimal n
decimal_printed n h = sym (digits_printed 19 n (omega arith) h)

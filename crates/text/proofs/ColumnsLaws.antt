-- Laws of specs/Columns.antt.
use Rattle.std.specs.Prelude.{ℕ, zero, suc, ◌+◌, ◌-◌, ◌*◌, ◌/◌, ◌%◌, ◌^◌, ◌≤◌, ◌<◌, Bool, true, false, cond, ◌≡◌, refl}
use Rattle.std.specs.Prelude.{List, [], ◌∷◌, ◌++◌, eqb, length, get_or}
use Rattle.std.proofs.Common.{arith, ◌∙◌, append_assoc, length-append, le-leb}
use Rattle.std.proofs.lemmas.List.{length-replicate}
use Rattle.runs.specs.Runs.{run_at, run_first, run_behind}
use Rattle.text.specs.Text.{digits, decimal, field, blanks, column, columns}
use Rattle.text.specs.Digits.{reads}
use Rattle.text.proofs.Digits.{digits_length, decimal_read}
use Rattle.text.specs.Columns.{Within, printed, printed_append, printed_blanks}

-- ---- widths

-- a number below a power of ten has as many digits at most
pub decimal_length : (j n : ℕ) → n < 10 ^ suc j → length (decimal n) ≤ suc j
decimal_length j n h = digits_length 20 j n h

pub column_length : (width n : ℕ) → length (decimal n) ≤ width → length (column width n) ≡ width
unfolding column
column_length width n h = rw (length-append, length-replicate) (omega arith)

pub columns_length : (width unit : ℕ) (ns : List ℕ) → Within width unit ns → length (columns width unit ns) ≡ length ns * width
unfolding columns
columns_length width unit [] h = omega arith
columns_length width unit (n ∷ ns) h =
    rw (length-append, column_length width (n / unit) (h 0), columns_length width unit ns (λ i. h (suc i))) (omega arith)

-- column i, whatever stands behind the columns
pub column_at : (width unit : ℕ) (ns behind : List ℕ) → Within width unit ns → (i : ℕ) → i < length ns →
    run_at width i (columns width unit ns ++ behind) ≡ column width (get_or ns i 0 / unit)
unfolding columns
column_at width unit [] behind h i m = absurd (omega arith)
column_at width unit (n ∷ ns) behind h zero m =
    rw append_assoc (run_first width (column width (n / unit)) (columns width unit ns ++ behind) (column_length width (n / unit) (h 0)))
column_at width unit (n ∷ ns) behind h (suc i) m =
    rw append_assoc
    (run_behind width (column width (n / unit)) (columns width unit ns ++ behind) (column_length width (n / unit) (h 0)) i
    ∙ column_at width unit ns behind (λ k. h (suc k)) i (omega arith))

-- ---- reading

-- a blank before the digits reads as no digit: 32 - 48 is 0
reads_blanks : (n : ℕ) (ds : List ℕ) → reads 0 (blanks n ++ ds) ≡ reads 0 ds
unfolding reads
reads_blanks zero ds = refl
reads_blanks (suc n) ds = reads_blanks n ds

pub column_read : (width n : ℕ) → n < 2 ^ 64 → reads 0 (column width n) ≡ n
unfolding column
column_read width n h = reads_blanks (width - length (decimal n)) (decimal n) ∙ decimal_read n h

digit_printed : (n : ℕ) → printed ((48 + n % 10) ∷ []) ≡ true
unfolding printed
digit_printed n = rw (le-leb 32 (48 + n % 10) (omega arith), le-leb (48 + n % 10) 126 (omega arith))

digits_printed : (k n : ℕ) → printed (digits k n) ≡ true
unfolding digits printed
digits_printed zero n = refl
digits_printed (suc k) n = go (eqb (n / 10) 0) (digits_printed k (n / 10))
  where
    go : (b : Bool) → printed (digits k (n / 10)) ≡ true → printed (cond b ((48 + n % 10) ∷ []) (digits k (n / 10) ++ ((48 + n % 10) ∷ []))) ≡ true
    go true h = digit_printed n
    go false h = printed_append (digits k (n / 10)) ((48 + n % 10) ∷ []) h (digit_printed n)

pub field_printed : (label : List ℕ) (n : ℕ) → printed label ≡ true → printed (field label n) ≡ true
unfolding field
field_printed label n h = printed_append label (decimal n) h (digits_printed 20 n)

column_printed : (width n : ℕ) → printed (column width n) ≡ true
unfolding column
column_printed width n =
    let lack : ℕ = width - length (decimal n) in
    printed_append (blanks lack) (decimal n) (printed_blanks lack) (digits_printed 20 n)

pub columns_printed : (width unit : ℕ) (ns : List ℕ) → printed (columns width unit ns) ≡ true
unfolding columns printed
columns_printed width unit [] = refl
columns_printed width unit (n ∷ ns) =
    printed_append (column width (n / unit)) (columns width unit ns) (column_printed width (n / unit)) (columns_printed width unit ns)

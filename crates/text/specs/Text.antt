-- Numbers in decimal digits, behind a label, and right-aligned in columns.
use Rattle.std.specs.Prelude.{ℕ, zero, suc, ◌+◌, ◌-◌, ◌/◌, ◌%◌, cond, List, [], ◌∷◌, ◌++◌, eqb, length, replicate}

-- the decimal digits of n, the last k of them at most; 48 is the byte of 0
unfoldable pub digits : ℕ → ℕ → List ℕ
digits zero n = []
digits (suc k) n = cond (eqb (n / 10) 0) ((48 + n % 10) ∷ []) (digits k (n / 10) ++ ((48 + n % 10) ∷ []))

-- twenty digits hold every number of 64 bits
abbrev pub decimal : ℕ → List ℕ
decimal n = digits 20 n

-- a label and a number
unfoldable pub field : List ℕ → ℕ → List ℕ
field label n = label ++ decimal n

-- so many blanks; 32 is the byte of a blank
abbrev pub blanks : ℕ → List ℕ
blanks n = replicate n 32

-- a number right-aligned in a column; one that is wider stands whole
unfoldable pub column : (width n : ℕ) → List ℕ
column width n = blanks (width - length (decimal n)) ++ decimal n

-- numbers one after another, each in a column of its own and in whole units of so much, rounded down
unfoldable pub columns : (width unit : ℕ) → List ℕ → List ℕ
columns width unit [] = []
columns width unit (n ∷ ns) = column width (n / unit) ++ columns width unit ns

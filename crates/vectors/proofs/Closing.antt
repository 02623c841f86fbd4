-- The closing line fits its buffer, and stands behind what was said of single cases.
use Rattle.std.specs.Prelude.{ℕ, ◌+◌, ◌^◌, ◌≤◌, ◌<◌, ◌≡◌, List, ◌++◌, length, take, Option}
use Rattle.std.proofs.Common.{arith, refl, drop, length-append, take_at}
use Rattle.std.specs.Io.KnownBytes.{Appends}
use Rattle.std.proofs.KnownBytes.{Appends-trans}
use Rattle.buffer.specs.Buffer.{WroteAt}
use Rattle.buffer.proofs.Pieces.{wrote_fits}
use Rattle.text.specs.Text.{field, decimal}
use Rattle.text.specs.Words.{bytes}
use Rattle.text.proofs.Digits.{digits_length, field_within}
use Rattle.vectors.specs.Vectors.{Adds, Told, closing_line}

pub adds_more : (a b c : Option (List ℕ)) → Adds a b → Adds b c → Adds a c
adds_more a b c p q = (p.0 ++ q.0, Appends-trans a b c p.0 q.0 p.1 q.1)

-- ten digits, nine bytes, ten digits and nine bytes
closing_fits : (cases differing : ℕ) → cases < 2 ^ 32 → differing < 2 ^ 32 → length (closing_line cases differing) ≤ 38
unfolding closing_line
closing_fits cases differing h k =
    let a : length (decimal cases) ≤ 10 = digits_length 20 9 cases (omega arith) in
    let b : length (field (bytes " cases, ") differing) ≤ 18 = field_within (bytes " cases, ") 9 differing (omega arith) in
    simp length-append (omega arith)

-- so it is written whole
whole : {b : List ℕ} {cases differing : ℕ} {line : List ℕ} {n : ℕ} → length b ≡ 64 → cases < 2 ^ 32 → differing ≤ cases →
    WroteAt b 0 (closing_line cases differing) line n → take n line ≡ closing_line cases differing
whole {b} {cases} {differing} {line} {n} e h k w =
    let closing = closing_line cases differing in
    let z : 0 + length closing ≡ length closing = omega arith in
    let fits = wrote_fits w (omega (arith, closing_fits cases differing h (omega arith))) in
    rw (fits.0, fits.1, z) (take_at closing (drop (length closing) b) _ refl)

pub told : (x y z : Option (List ℕ)) {b : List ℕ} {cases differing : ℕ} {line : List ℕ} {n : ℕ} →
    Adds x y → length b ≡ 64 → cases < 2 ^ 32 → differing ≤ cases →
    WroteAt b 0 (closing_line cases differing) line n → Appends y z (take n line) → Told x z
told x y z {b} {cases} {differing} more e h k w last =
    let written : Appends y z (closing_line cases differing) = rw (whole e h k w) at last in
    (more.0, cases, differing, k, Appends-trans x y z more.0 (closing_line cases differing) more.1 written)

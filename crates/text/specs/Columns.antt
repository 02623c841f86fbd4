-- What columns mean: each is as wide as it says where its number's digits fit, stands in its place, and reads back as its number; and
-- every byte of a number is a printed one.
use Rattle.std.specs.Prelude.{ℕ, zero, suc, ◌/◌, ◌≤◌, Bool, true, ◌&&◌, ◌≡◌, refl, List, [], ◌∷◌, ◌++◌, leb, length, get_or}
use Rattle.std.proofs.Common.{ap, sym, ◌∙◌}
use Rattle.std.proofs.Math.Bool.{and_assoc}
use Rattle.text.specs.Text.{decimal, blanks}

-- numbers whose digits fit their columns
abbrev pub Within : (width unit : ℕ) → List ℕ → Type 0
Within width unit ns = (i : ℕ) → length (decimal (get_or ns i 0 / unit)) ≤ width

-- ---- printed bytes

-- from 32, a blank, to 126
abbrev pub printed_byte : ℕ → Bool
printed_byte b = leb 32 b && leb b 126

unfoldable pub printed : List ℕ → Bool
printed [] = true
printed (b ∷ bs) = printed_byte b && printed bs

printed_join : (a b : List ℕ) → printed (a ++ b) ≡ (printed a && printed b)
unfolding printed
printed_join [] b = refl
printed_join (x ∷ a) b = ap (λ (t : Bool). printed_byte x && t) (printed_join a b) ∙ sym (and_assoc (printed_byte x) (printed a) (printed b))

pub printed_append : (a b : List ℕ) → printed a ≡ true → printed b ≡ true → printed (a ++ b) ≡ true
printed_append a b ha hb = printed_join a b ∙ rw (ha, hb)

pub printed_blanks : (n : ℕ) → printed (blanks n) ≡ true
unfolding printed
printed_blanks zero = refl
printed_blanks (suc n) = printed_blanks n

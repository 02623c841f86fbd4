-- The paper's two figures of archives, as values that compute: the empty archive, and one untitled record added to it.
use Rattle.std.specs.Prelude.{ℕ, List, [], ◌∷◌, length, drop, replicate, Ok, Err}
use Rattle.refusal.specs.Refusal.{Or}
use Rattle.archive_format.specs.Archive.{encode, add_of, first_edition}

unfoldable pub empty_archive : List ℕ
empty_archive = encode first_edition []

-- a record with the number 1
abbrev pub first_record : List ℕ
first_record = 1 ∷ replicate 67 0

unfoldable pub one_record : Or (List ℕ)
one_record = add_of first_edition empty_archive first_record [] 77

abbrev pub answered : Or (List ℕ) → List ℕ
answered (Err n) = []
answered (Ok new) = new

abbrev pub one_length : ℕ
one_length = length (answered one_record)

abbrev pub one_trailer : List ℕ
one_trailer = drop 69 (answered one_record)

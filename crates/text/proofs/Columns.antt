-- The loop over numbers in columns.
use Rattle.std.specs.Prelude.{ℕ, ◌+◌, ◌/◌, ◌≤◌, ◌<◌, ◌≡◌, List, [], ◌++◌, length, drop, get_or}
use Rattle.std.proofs.Common.{add-one}
use Rattle.std.proofs.Math.ListN.{drop_of_length-le}
use Rattle.std.proofs.Math.Seq.{drop-cons}
use Rattle.text.specs.Text.{column, columns}

-- the column of number i is the front of those from it on
pub columns_from : (width unit : ℕ) (ns : List ℕ) (i : ℕ) → i < length ns →
    columns width unit (drop i ns) ≡ column width (get_or ns i 0 / unit) ++ columns width unit (drop (i + 1) ns)
unfolding columns
columns_from width unit ns i h = rw (add-one, drop-cons ns i 0 h)

pub columns_none : (width unit : ℕ) (ns : List ℕ) (i : ℕ) → length ns ≤ i → columns width unit (drop i ns) ≡ []
unfolding columns
columns_none width unit ns i h = rw (drop_of_length-le ns {i = i} h)

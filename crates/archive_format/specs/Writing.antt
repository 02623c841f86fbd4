-- What a call that writes to a lent buffer says where it accepts.
use Rattle.std.specs.Prelude.{ℕ, ◌≤◌, ◌≡◌, List, length, Ok, Err}
use Rattle.std.proofs.Common.{arith, length-append}
use Rattle.refusal.specs.Refusal.{Or, false_true}
use Rattle.archive_format.specs.Archive.{new_length, overwrite, Writes}

-- the length answered lies within the buffer
pub writes_within : {x : Or (List ℕ)} {before : List ℕ} {r : Or ℕ} {after : List ℕ} {n : ℕ} → Writes x before r after → r ≡ Ok n → n ≤ length after
writes_within {x} {before} {r} {after} {n} w e = go x w.answer w.buffer
  where
    go : (y : Or (List ℕ)) → r ≡ new_length y → after ≡ overwrite y before → n ≤ length after
    go (Err m) a b = false_true (cc)
    go (Ok new) a b = let same : length new ≡ n = cc in rw (b, length-append) (omega arith)

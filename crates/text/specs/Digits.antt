-- What the digits of a number mean: read in tens they give it back, and they are no more than its size needs.
use Rattle.std.specs.Prelude.{ℕ, ◌+◌, ◌-◌, ◌*◌, List, [], ◌∷◌}

-- the number that digits read, after those that read n
unfoldable pub reads : ℕ → List ℕ → ℕ
reads n [] = n
reads n (d ∷ ds) = reads (10 * n + (d - 48)) ds

-- Sixteen zero seeds are never refused with 12: Exhibit 30-2 stands in for them, and each of its rows adds to 100.
use Rattle.std.specs.Prelude.{ℕ, ◌+◌, ◌<◌, ◌≡◌, List, get_or}
use Rattle.segment.specs.Layout.{seeds_at}

-- a record's sixteen seeds, all zero
pub record ZeroSeeds (l : List ℕ) : Type 0 where
  pub zero : (i : ℕ) → i < 16 → get_or l (seeds_at + i) 0 ≡ 0

-- The sizes of records that an archive can hold.
use Rattle.std.specs.Prelude.{ℕ, ◌≤◌}

-- a record has room for its number, and two bytes hold the places of 512 of them with titles
abbrev pub Sized : ℕ → Type 0
Sized size = (4 ≤ size) × (size ≤ 86)

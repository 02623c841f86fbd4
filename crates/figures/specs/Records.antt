-- The records that the figures start from, byte by byte.
use Rattle.std.specs.Prelude.{ℕ, List, [], ◌∷◌, ◌++◌, replicate}
use Rattle.octets.specs.Octets.{bytes2}

-- a record of C 60, r 40000 and h 4100 with nothing else but its through entry: volume 600, saturation 1800, green 0 and 30, P 500
abbrev pub through_entry : List ℕ
through_entry =
    (1 ∷ 0 ∷ 0 ∷ 0 ∷ [])
    ++ (bytes2 60 ++ (64 ∷ 156 ∷ 0 ∷ 0 ∷ []) ++ bytes2 4100)
    ++ replicate 8 0
    ++ (bytes2 600 ++ bytes2 1800 ++ (0 ∷ 30 ∷ []) ++ bytes2 500)
    ++ replicate 40 0

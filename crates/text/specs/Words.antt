-- A text written out, as bytes: the code of each character, which is its byte below 128.
use Rattle.std.specs.Prelude.{ℕ, List, [] as nil, ◌∷◌ as cons}
use Prim.Native.Char.{code}
use Prim.Native.String.{String, [], ◌∷◌}

abbrev pub bytes : String → List ℕ
bytes [] = nil
bytes (c ∷ s) = cons (code c) (bytes s)

abbrev pub newline : List ℕ
newline = bytes "\n"

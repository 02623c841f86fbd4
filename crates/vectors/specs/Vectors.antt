-- What the test programs compare.
use Rattle.std.specs.Prelude.{◌≡◌, ℕ, ◌≤◌, ◌+◌, ◌*◌, ◌%◌, Bool, false, ◌||◌, ◌&&◌, not, List, [], ◌∷◌, ◌++◌, eqb, leb, ltb, Float, length, take, drop, Option}
use Rattle.std.specs.Borrow.{MutBor}
use Rattle.std.specs.List.{flat_map}
use Rattle.std.specs.Io.KnownBytes.{Appends}
use Rattle.std.specs.Float.{binary64}
use Rattle.std.specs.Float.Ieee.{to_bits}
use Rattle.octets.specs.Octets.{word2, word4, word8}
use Rattle.lists.specs.Lists.{tab}
use Rattle.propagation.specs.Propagation.{Profiles, profiles, held}
use Rattle.propagation.specs.declared.LentProfiles.{LentProfiles}
use Rattle.text.specs.Text.{decimal, field}
use Rattle.text.specs.Words.{bytes}
use Rattle.vectors.specs.declared.Lengths.{Lengths}
use Rattle.vectors.specs.declared.TheConstants.{ROOM, OUTPUT_FROM, PASSING_FROM, FIRST_FROM, SECOND_FROM}

-- a body's record, as long as its first two bytes say, and what follows it
pub record IsRecordAndRest (body segment rest : List ℕ) : Type 0 where
  pub within : 2 + word2 body 0 ≤ length body
  pub segment_is : segment ≡ take (word2 body 0) (drop 2 body)
  pub rest_is : rest ≡ drop (2 + word2 body 0) body

-- a lent profile before a call: each place its own number
unfoldable pub pattern : ℕ → ℕ → List ℕ
pattern first n = tab (λ i. first + i) 0 n

-- a lent buffer
unfoldable pub byte_pattern : ℕ → List ℕ
byte_pattern n = tab (λ i. i % 251) 0 n

-- some number is not the four bytes that stand for it, from a place on
unfoldable pub words_differ : List ℕ → ℕ → List ℕ → Bool
words_differ l at [] = false
words_differ l at (x ∷ xs) = not (eqb (word4 l at) x) || words_differ l (at + 4) xs

-- some number of a profile is not, or too few bytes stand there
unfoldable pub profile_differs : List ℕ → List ℕ → Bool
profile_differs l run = ltb (length l) (4 * length run) || words_differ l 0 run

-- some of the sixteen pair flows is not, row after row
abbrev pub rows_differ : List ℕ → ℕ → List (List ℕ) → Bool
rows_differ l at rows = words_differ l at (flat_map (λ row. row) rows)

-- the eight bytes from a place on are not a float's bits
unfoldable pub float_differs : List ℕ → ℕ → Float → Bool
float_differs l at x = not (eqb (word8 l at) (to_bits binary64 x))

-- N cases, M differs
unfoldable pub closing_line : ℕ → ℕ → List ℕ
closing_line cases differing =
    decimal cases
    ++ field (bytes " cases, ") differing
    ++ bytes " differs\n"

-- a writer's known bytes grow by some
abbrev pub Adds : Option (List ℕ) → Option (List ℕ) → Type 0
Adds old new = (more : List ℕ) × Appends old new more

-- what a run says: lines of single cases, then the closing line, in which no more differ than there are
abbrev pub Told : Option (List ℕ) → Option (List ℕ) → Type 0
Told old new = (lines : List ℕ) × (cases : ℕ) × (differing : ℕ) × (differing ≤ cases) × Appends old new (lines ++ closing_line cases differing)

-- lengths of no more than a case lends, and as many numbers as they say, of four bytes each
pub record AsLong (n : Lengths) (numbers : List ℕ) : Type 0 where
  pub output : n.output ≤ ROOM
  pub passing : n.passing ≤ ROOM
  pub first : n.first ≤ ROOM
  pub second : n.second ≤ ROOM
  pub count : length numbers ≡ 4 * (n.output + n.passing + n.first + n.second)

-- none is longer than the longest of its kind
unfoldable pub within : Lengths → Lengths → Bool
within n most = leb n.output most.output && leb n.passing most.passing && leb n.first most.first && leb n.second most.second

-- lent profiles that are no longer than a case lends them
abbrev pub Lendable : Profiles → List ℕ → Type 0
Lendable p q = (length p.output ≤ ROOM) × (length q ≤ ROOM) × (length p.first ≤ ROOM) × (length p.second ≤ ROOM)

-- lent profiles that got their patterns
pub record Patterned (p : Profiles) (q : List ℕ) (p' : Profiles) (q' : List ℕ) : Type 0 where
  pub output : p'.output ≡ pattern OUTPUT_FROM (length p.output)
  pub passing : q' ≡ pattern PASSING_FROM (length q)
  pub first : p'.first ≡ pattern FIRST_FROM (length p.first)
  pub second : p'.second ≡ pattern SECOND_FROM (length p.second)

-- some number of the profiles is not, one profile after another
unfoldable pub profiles_differ : List ℕ → Profiles → List ℕ → Bool
profiles_differ l p q =
    let passing = drop (4 * length p.output) l in
    let first = drop (4 * length q) passing in
    let second = drop (4 * length p.first) first in
    profile_differs l p.output || profile_differs passing q || profile_differs first p.first || profile_differs second p.second

-- a call that is lent profiles of these lengths, each with its pattern, by what it may answer and leave: whether it differs, or a number does
abbrev pub Compared : (MutBor LentProfiles → MutBor (List ℕ) → Bool → MutBor LentProfiles → MutBor (List ℕ) → Type 0) → Lengths → List ℕ → Bool → Type 0
Compared Leaves n numbers differ =
    (p : MutBor LentProfiles) × (q : MutBor (List ℕ)) × (answer : Bool) × (p' : MutBor LentProfiles) × (q' : MutBor (List ℕ))
    × (held p.now ≡ profiles (pattern OUTPUT_FROM n.output) (pattern FIRST_FROM n.first) (pattern SECOND_FROM n.second))
    × (q.now ≡ pattern PASSING_FROM n.passing)
    × Leaves p q answer p' q'
    × (differ ≡ (answer || profiles_differ numbers (held p'.now) q'.now))

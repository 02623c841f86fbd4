-- What the one loop over the cycles does: the profiles that take them by turns are two, as `cycles_worked` has them, or the first alone.
use Rattle.std.specs.Prelude.{ℕ, zero, suc, ◌+◌, ◌%◌, cond, List, eqb}
use Rattle.dispersion.specs.declared.Turns.{Turns}
use Rattle.dispersion.specs.declared.Turns.TheVariants.{One, Two}
use Rattle.dispersion.specs.Dispersion.{empty_state, Work, work, into_first, into_second}

-- how many profiles take cycles beside the first
abbrev pub others_of : Turns → ℕ
others_of One = 0
others_of Two = 1

-- cycle k + 1 with so many profiles beside the first: one, the second, or none, where each cycle goes into the first
abbrev pub turn_worked : ℕ → List ℕ → (others k : ℕ) → Work → Work
turn_worked running q others k w = cond (eqb (k % (others + 1)) 0) (into_first running q w) (into_second running q w)

-- so many cycles by turns
unfoldable pub turns_worked : ℕ → List ℕ → (others cycles : ℕ) → List ℕ → List ℕ → Work
turns_worked running q others zero f g = work empty_state f g
turns_worked running q others (suc k) f g = turn_worked running q others k (turns_worked running q others k f g)

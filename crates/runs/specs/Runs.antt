-- Runs of c numbers in a profile, one after another.
use Rattle.std.specs.Prelude.{ℕ, suc, ◌+◌, ◌-◌, ◌*◌, ◌≤◌, ◌<◌, ◌≡◌, List, ◌++◌, length, take, drop, get_or}
use Rattle.std.proofs.Common.{arith, take_at, drop_at, drop-drop, get_or-take, get_or-drop}
use Rattle.lists.specs.Lists.{number_at}

-- run j, counted from 0
abbrev pub run_at : (c j : ℕ) → List ℕ → List ℕ
run_at c j profile = take c (drop (j * c) profile)

-- its number s stands at j·c + s - 1
pub run_number : (c j s : ℕ) (profile : List ℕ) → 0 < s → s ≤ c → number_at (run_at c j profile) s ≡ get_or profile (j * c + (s - 1)) 0
run_number c j s profile pos fits = let h : s - 1 < c = omega arith in rw (get_or-take, get_or-drop)

-- the first run, and the runs behind it
module _ (c : ℕ) (run behind : List ℕ) (h : length run ≡ c) where
  pub run_first : run_at c 0 (run ++ behind) ≡ run
  run_first = let z : 0 * c ≡ 0 = omega arith in rw (z, take_at run behind c h)

  pub run_behind : (j : ℕ) → run_at c (suc j) (run ++ behind) ≡ run_at c j behind
  run_behind j = let m : suc j * c ≡ c + j * c = omega arith in rw (m, ← (drop-drop (j * c) c (run ++ behind)), drop_at run behind c h)

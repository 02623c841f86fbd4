-- Laws of specs/Laws.antt: Laws of the output: four runs as a function of exit and step, begun by access, added to by an entry, and read number by number.
use Rattle.std.specs.Prelude.{ℕ, zero, suc, ◌+◌, ◌-◌, ◌*◌, ◌≤◌, ◌<◌, Bool, true, false, ◌≡◌, refl, List, [], ◌∷◌, ◌++◌, ltb}
use Rattle.std.specs.Prelude.{length, take, drop, get_or, replicate}
use Rattle.std.proofs.Common.{arith, ◌∙◌, take_at, drop_at, drop-drop, get_or-drop, ltb-true, ltb-false}
use Rattle.std.proofs.Math.ListN.{get_or-append}
use Rattle.lists.specs.Lists.{tab, tab_length, tab_at, tab_constant, number_at}
use Rattle.runs.specs.Runs.{run_at, run_first, run_behind}
use Rattle.runs.specs.PerRun.{per_run}
use Rattle.signal.specs.Turn.{earlier}
use Rattle.signal.specs.Landing.{landing, added}
use Rattle.signal.proofs.Landing.{landing_is, added_tab}
use Rattle.pair_parts.specs.PairParts.{pair_arrivals}
use Rattle.pair_parts.proofs.Laws.{pair_length, pair_le}
use Rattle.arrivals.specs.Arrivals.{begun, entry_added, four_runs}
use Rattle.arrivals.specs.Laws.{runs, long}

-- the first run, and what lies behind it
module _ (f : ℕ → ℕ) (c : ℕ) (behind : List ℕ) where
  front_take : take c (tab f 1 c ++ behind) ≡ tab f 1 c
  front_take = take_at (tab f 1 c) behind c (tab_length f 1 c)

  front_drop : drop c (tab f 1 c ++ behind) ≡ behind
  front_drop = drop_at (tab f 1 c) behind c (tab_length f 1 c)

  front_at : (i : ℕ) → i < c → get_or (tab f 1 c ++ behind) i 0 ≡ f (1 + i)
  front_at i h = get_or-append (tab f 1 c) behind 0 i (omega (arith, tab_length f 1 c)) ∙ tab_at f 1 c i h

  behind_drop : (i : ℕ) → drop (c + i) (tab f 1 c ++ behind) ≡ drop i behind
  behind_drop i = rw (← (drop-drop i c (tab f 1 c ++ behind)), front_drop)

  behind_at : (i : ℕ) → get_or (tab f 1 c ++ behind) (c + i) 0 ≡ get_or behind i 0
  behind_at i = rw (← (get_or-drop c (tab f 1 c ++ behind) i 0), front_drop)

beyond : (c : ℕ) (r : ℕ → ℕ → ℕ) (n : ℕ) (rest : List ℕ) → drop (n * c) (runs c r n rest) ≡ rest
unfolding runs
beyond c r zero rest = let z : 0 * c ≡ 0 = omega arith in rw z
beyond c r (suc n) rest = let m : suc n * c ≡ c + n * c = omega arith in rw (m, behind_drop) (beyond c (λ j. r (suc j)) n rest)

one : (c : ℕ) (r : ℕ → ℕ → ℕ) (n j : ℕ) (rest : List ℕ) → j < n → run_at c j (runs c r n rest) ≡ tab (r j) 1 c
unfolding runs
one c r zero j rest h = absurd (omega arith)
one c r (suc n) zero rest h = run_first c (tab (r 0) 1 c) _ (tab_length (r 0) 1 c)
one c r (suc n) (suc j) rest h = run_behind c (tab (r 0) 1 c) _ (tab_length (r 0) 1 c) j ∙ one c (λ j. r (suc j)) n j rest (omega arith)

-- a bound of every number of the runs
most : (c b : ℕ) (r : ℕ → ℕ → ℕ) (n : ℕ) (rest : List ℕ) → ((j s : ℕ) → j < n → 0 < s → s ≤ c → r j s ≤ b) →
    (i : ℕ) → i < n * c → get_or (runs c r n rest) i 0 ≤ b
unfolding runs
most c b r zero rest h i hi = absurd (omega arith)
most c b r (suc n) rest h i hi =
    go (runs c (λ j. r (suc j)) n rest) (ltb i c) refl
    (λ (k : ℕ) (hk : k < n * c). most c b (λ j. r (suc j)) n rest (λ j s hj. h (suc j) s (omega arith)) k hk)
  where
    go : (behind : List ℕ) (t : Bool) → ltb i c ≡ t → ((k : ℕ) → k < n * c → get_or behind k 0 ≤ b) → get_or (tab (r 0) 1 c ++ behind) i 0 ≤ b
    go behind true e f = rw (front_at (r 0) c behind i (ltb-true i c e)) (h 0 (1 + i) (omega arith) (omega arith) (omega (arith, ltb-true i c e)))
    go behind false e f =
        let l = ltb-false i c e in
        let z : i ≡ c + (i - c) = omega arith in
        rw (z, behind_at) (f (i - c) (omega arith))

-- what is done to each run is done to all
each : (g : ℕ → List ℕ → List ℕ) (c : ℕ) (r q : ℕ → ℕ → ℕ) (row rest : List ℕ) →
    ((j : ℕ) → g (get_or row j 0) (tab (r j) 1 c) ≡ tab (q j) 1 c) →
    per_run g c row (runs c r (length row) rest) ≡ runs c q (length row) rest
unfolding runs per_run
each g c r q [] rest h = refl
each g c r q (v ∷ row) rest h = rw (front_take, front_drop, h 0, each g c (λ j. r (suc j)) (λ j. q (suc j)) row rest (λ j. h (suc j)))

begins : (c : ℕ) (row out : List ℕ) → per_run (λ v run. replicate c v) c row out ≡ runs c (λ j s. get_or row j 0) (length row) (drop (length row * c) out)
unfolding per_run runs
begins c [] out = let z : 0 * c ≡ 0 = omega arith in rw z
begins c (v ∷ row) out =
    let m : suc (length row) * c ≡ c + length row * c = omega arith in
    rw (tab_constant v 1 c, begins c row (drop c out), drop-drop (length row * c) c out, m)

-- the four runs of an output, j an exit from 0, s a step from 1
module _ (c : ℕ) (r : ℕ → ℕ → ℕ) (rest : List ℕ) where
  pub runs_length : length (four_runs c r rest) ≡ 4 * c + length rest
  unfolding runs
  runs_length = long c r 4 rest

  pub runs_beyond : drop (4 * c) (four_runs c r rest) ≡ rest
  unfolding runs
  runs_beyond = beyond c r 4 rest

  -- run j, and its number s
  pub run_of_lem : (j : ℕ) → j < 4 → run_at c j (four_runs c r rest) ≡ tab (r j) 1 c
  unfolding runs
  run_of_lem j h = one c r 4 j rest h

  pub number_of : (j s : ℕ) → j < 4 → 0 < s → s ≤ c → number_at (run_at c j (four_runs c r rest)) s ≡ r j s
  number_of j s h pos fits = let q : 1 + (s - 1) ≡ s = omega arith in rw (run_of_lem j h, tab_at (r j) 1 c (s - 1) (omega arith), q)

  pub runs_le : (b : ℕ) → ((j s : ℕ) → j < 4 → 0 < s → s ≤ c → r j s ≤ b) → (i : ℕ) → i < 4 * c → get_or (four_runs c r rest) i 0 ≤ b
  unfolding runs
  runs_le b h i hi = most c b r 4 rest h i hi

-- access begins each run with its own number in every step
pub begun_runs : (c : ℕ) (row out : List ℕ) → length row ≡ 4 → begun c row out ≡ four_runs c (λ j s. get_or row j 0) (drop (4 * c) out)
unfolding begun runs
begun_runs c row out four = rw four at (begins c row out)

-- an entry adds in each step what lands there
pub added_runs : (c t w : ℕ) (arrived row : List ℕ) (r : ℕ → ℕ → ℕ) (rest : List ℕ) → 0 < c → length row ≡ 4 →
    entry_added c t w arrived row (four_runs c r rest) ≡ four_runs c (λ j s. r j s + landing c t s 1 (pair_arrivals (get_or row j 0) w arrived)) rest
unfolding entry_added runs
added_runs c t w arrived row r rest pos four =
    let q : ℕ → ℕ → ℕ = λ j s. r j s + landing c t s 1 (pair_arrivals (get_or row j 0) w arrived) in
    rw four at (each (λ v run. added c t 1 (pair_arrivals v w arrived) run) c r q row rest
    (λ j. added_tab c t (r j) (pair_arrivals (get_or row j 0) w arrived) pos))

-- what lands in a step is no more than the largest arrival
pub lands_le : (c t s v w m : ℕ) (arrived : List ℕ) → 0 < s → s ≤ c → length arrived ≤ c → v ≤ w → ((i : ℕ) → get_or arrived i 0 ≤ m) →
    landing c t s 1 (pair_arrivals v w arrived) ≤ m
lands_le c t s v w m arrived pos fits long h most =
    rw (landing_is c t s (pair_arrivals v w arrived) pos fits (rw (pair_length v w arrived) long)) (pair_le v w m arrived h most (earlier c t s - 1))

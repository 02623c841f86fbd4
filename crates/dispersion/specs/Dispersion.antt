-- Platoon dispersion, from 30-11 and 30-12 with steps of one second. Running times are in milliseconds.
use Rattle.std.specs.Prelude.{ℕ, zero, suc, ◌+◌, ◌-◌, ◌*◌, ◌/◌, ◌%◌, Bool, cond, List, [], ◌∷◌, ◌++◌, eqb, length, take, drop}
use Rattle.dispersion.specs.declared.PlatoonState.{PlatoonState}

-- N: the smoothing factor F is N / D
abbrev pub smoothing : ℕ
smoothing = 500000

-- D
unfoldable pub divisor_of : ℕ → ℕ
divisor_of running = 657500 + 69 * running

-- t', the platoon arrival time in steps: to the nearest, halves up
unfoldable pub arrival_time_of : ℕ → ℕ
arrival_time_of running = (862 * running + 435000) / 1000000

-- the segment (the paper's street) starts empty
abbrev pub empty_state : PlatoonState
empty_state = record { level = 0; carry = 0 }

-- what a step makes, before the division by D
abbrev pub made : ℕ → ℕ → PlatoonState → ℕ
made running discharge s = smoothing * discharge + (divisor_of running - smoothing) * s.level + s.carry

-- the quotient is the arrival and the next level, the remainder the next carry
unfoldable pub step_of : ℕ → ℕ → PlatoonState → PlatoonState
step_of running discharge s =
    record { level = made running discharge s / divisor_of running; carry = made running discharge s % divisor_of running }

-- the arrivals of discharges, one a step
unfoldable pub arrivals : ℕ → List ℕ → PlatoonState → List ℕ
arrivals running [] s = []
arrivals running (q ∷ qs) s = (step_of running q s).level ∷ arrivals running qs (step_of running q s)

-- the state that they leave
unfoldable pub state_after : ℕ → List ℕ → PlatoonState → PlatoonState
state_after running [] s = s
state_after running (q ∷ qs) s = state_after running qs (step_of running q s)

-- the discharges of so many cycles, all alike, one cycle after the other
unfoldable pub repeated : ℕ → List ℕ → List ℕ
repeated zero q = []
repeated (suc n) q = repeated n q ++ q

-- so many cycles are worked from step 1 of an empty segment, and the last is reported
unfoldable pub reported : ℕ → List ℕ → ℕ → List ℕ
reported running q cycles = drop ((cycles - 1) * length q) (arrivals running (repeated cycles q) empty_state)

-- a profile with the last of so many cycles in front, the numbers beyond as they were
abbrev pub held : ℕ → List ℕ → ℕ → List ℕ → List ℕ
held running q cycles profile = reported running q cycles ++ drop (length q) profile

-- a profile after a cycle: the arrivals, and the numbers beyond as they were
unfoldable pub cycle_written : ℕ → List ℕ → PlatoonState → List ℕ → List ℕ
cycle_written running q s profile = arrivals running q s ++ drop (length q) profile

-- the state and the two work profiles
pub record Work : Type 0 where
  pub state : PlatoonState
  pub first : List ℕ
  pub second : List ℕ

abbrev pub work : PlatoonState → List ℕ → List ℕ → Work
work s f g = record { state = s; first = f; second = g }

-- a cycle into the first profile, and one into the second; the state runs on
abbrev pub into_first : ℕ → List ℕ → Work → Work
into_first running q w = work (state_after running q w.state) (cycle_written running q w.state w.first) w.second

abbrev pub into_second : ℕ → List ℕ → Work → Work
into_second running q w = work (state_after running q w.state) w.first (cycle_written running q w.state w.second)

-- cycle k + 1 goes into the first profile where k is even
abbrev pub cycle_worked : ℕ → List ℕ → ℕ → Work → Work
cycle_worked running q k w = cond (eqb (k % 2) 0) (into_first running q w) (into_second running q w)

-- the cycles alternate between the profiles, cycle one in the first
unfoldable pub cycles_worked : ℕ → List ℕ → ℕ → List ℕ → List ℕ → Work
cycles_worked running q zero f g = work empty_state f g
cycles_worked running q (suc k) f g = cycle_worked running q k (cycles_worked running q k f g)

-- the first profile holds the last of so many cycles where their number is odd
abbrev pub first_holds : ℕ → Bool
first_holds cycles = eqb (cycles % 2) 1

-- the part that holds it
unfoldable pub last_part : List ℕ → List ℕ → ℕ → ℕ → List ℕ
last_part f g cycles steps = cond (first_holds cycles) (take steps f) (take steps g)

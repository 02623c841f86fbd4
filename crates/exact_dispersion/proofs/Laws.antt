-- Laws of specs/Laws.antt: The laws of exact at dispersion's own definitions: conservation over all cycles, and the reported arrivals against the exact flow.
use Rattle.std.specs.Prelude.{ℕ, zero, suc, ◌+◌, ◌-◌, ◌*◌, ◌<◌, ◌≡◌, refl, List, [], ◌∷◌, ◌++◌, length}
use Rattle.std.proofs.Common.{arith, ◌∙◌, get_or-drop}
use Rattle.lists.specs.Lists.{sum, sum_append}
use Rattle.dispersion.specs.Dispersion.{smoothing, divisor_of, empty_state, arrivals, state_after, repeated, reported}
use Rattle.dispersion.specs.Arrivals.{divisor_pos, state_carry, length_arrivals, arrivals_append}
use Rattle.dispersion.specs.Cycles.{repeated_length, reported_is}
use Rattle.exact.specs.Run.{run_last, run_conserved}
use Rattle.exact.proofs.Run.{run_exact}
use Rattle.exact_dispersion.specs.ExactDispersion.{exact_flow_of, exact_reported, Near, departed, arrived, last_arrival, Balanced}
use Rattle.exact_dispersion.specs.Laws.{run_of_lem}

-- after j cycles, in discharge step i of the next: k = j·C + i, over the discharge of them all
pub exact_after : (running : ℕ) (q : List ℕ) (j i : ℕ) → exact_reported (suc j) running q i ≡ exact_flow_of running (repeated j q ++ q) (j * length q + i)
unfolding exact_reported repeated
exact_after running q j i = let e : suc j - 1 ≡ j = omega arith in rw e

all_steps : (running : ℕ) (q : List ℕ) (cycles : ℕ) → length (arrivals running (repeated cycles q) empty_state) ≡ cycles * length q
all_steps running q cycles = length_arrivals running (repeated cycles q) empty_state ∙ repeated_length cycles q

-- every arrival of the reported cycle is within one flow unit of the exact flow from empty
pub near_empty : (running : ℕ) (q : List ℕ) (k : ℕ) → Near 1 1 (suc k) (exact_reported (suc k)) running q
unfolding reported exact_reported
near_empty running q k =
    record {
      arrival = λ i h.
          let before : suc k - 1 ≡ k = omega arith in
          let e : k * length q + suc i ≡ suc (k * length q + i) = omega arith in
          rw (get_or-drop, before, e)
          (run_exact (run_of_lem running (repeated (suc k) q) empty_state) (k * length q + i) (omega (arith, all_steps running q (suc k))));
    }

-- the last arrival is the level that the cycles leave
repeated_nil : (n : ℕ) → repeated n [] ≡ []
unfolding repeated
repeated_nil zero = refl
repeated_nil (suc n) = rw (repeated_nil n)

last_level : (running : ℕ) (q : List ℕ) (k : ℕ) → last_arrival running q (suc k) ≡ (state_after running (repeated (suc k) q) empty_state).level
unfolding last_arrival reported arrivals state_after
last_level running [] k = rw (get_or-drop, repeated_nil (suc k))
last_level running (x ∷ q) k =
    let before : suc k - 1 ≡ k = omega arith in
    rw (get_or-drop, before)
    (run_last (run_of_lem running (repeated (suc k) (x ∷ q)) empty_state) _ (omega (arith, all_steps running (x ∷ q) (suc k))))

pub arrived_more : (running : ℕ) (q : List ℕ) (k : ℕ) → arrived running q (suc k) ≡ arrived running q k + sum (reported running q (suc k))
unfolding arrived repeated
arrived_more running q k = rw (arrivals_append, sum_append, reported_is running q k)

-- conservation: what is discharged has arrived, or is in the last level and the carry, which is below D
pub entry_conserved : (running : ℕ) (q : List ℕ) (k : ℕ)
    → (smoothing * departed q (suc k)
    ≡ smoothing * arrived running q (suc k) + (divisor_of running - smoothing) * last_arrival running q (suc k)
    + (state_after running (repeated (suc k) q) empty_state).carry)
    × ((state_after running (repeated (suc k) q) empty_state).carry < divisor_of running)
unfolding departed arrived
entry_conserved running q k = (
  rw (last_level running q k) (omega (arith, run_conserved (run_of_lem running (repeated (suc k) q) empty_state))),
  state_carry running (repeated (suc k) q) empty_state (divisor_pos running),
)

pub entry_balanced : (running : ℕ) (q : List ℕ) (k : ℕ) → Balanced running (departed q (suc k)) (arrived running q (suc k)) (last_arrival running q (suc k))
entry_balanced running q k =
    let e = entry_conserved running q k in
    record { from_zero = omega (arith, e); below_divisor = omega (arith, e) }

-- what arrives in the last two cycles, and before them
pub arrived_last : (running : ℕ) (q : List ℕ) (k : ℕ)
    → arrived running q (suc (suc k)) ≡ arrived running q k + sum (reported running q (suc k)) + sum (reported running q (suc (suc k)))
arrived_last running q k = omega (arith, arrived_more running q k, arrived_more running q (suc k))

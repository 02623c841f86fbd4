-- Laws of specs/Conserved.antt: A cycle discharges what it carries.
use Rattle.std.specs.Prelude.{ℕ, zero, suc, ◌+◌, ◌-◌, ◌*◌, ◌/◌, min, ◌≤◌, ◌<◌, ◌≡◌, get_or}
use Rattle.std.proofs.Common.{arith, mod-lt, mul-le-mul_left, ap, ◌∙◌}
use Rattle.std.proofs.Math.Nat.{div-add-mod, lt_of_mul-lt-mul_left, mul-div_cancel_left, zero-div}
use Rattle.limits.specs.Limits.{most_arriving}
use Rattle.lists.specs.Lists.{sum}
use Rattle.movements.specs.Movements.{flow_units}
use Rattle.signal.specs.declared.Green.{Green}
use Rattle.signal.specs.Greens.{GreenFits}
use Rattle.signal.specs.Landing.{landed}
use Rattle.signal.proofs.Landing.{landed_sum, landed_le}
use Rattle.platoon.specs.Discharge.{carried, green_arrivals, received, served_of, served, queue_of, green_flows, profile_of}
use Rattle.platoon.specs.GreenOrder.{more_arrived, arrived_le}
use Rattle.platoon.proofs.GreenOrder.{flows_length}
use Rattle.platoon.specs.Conserved.{green_arrivals_le}

-- what is still to arrive after k steps can be served in the steps left
rest_served : (all g rate k : ℕ) → 0 < g → k ≤ g → all ≤ rate * g → all - k * all / g ≤ (g - k) * rate
rest_served all g rate k pos within enough =
    let f = k * all / g in
    let e = div-add-mod (k * all) g in
    let m = mod-lt (k * all) {m = g} pos in
    let n : g ≡ k + (g - k) = omega arith in
    let w : (g - k) * all ≤ (g - k) * (rate * g) = mul-le-mul_left (g - k) enough in
    let s : g * all ≡ k * all + (g - k) * all = ap (λ (z : ℕ). z * all) n ∙ omega arith in
    let l : g * all < g * (f + (g - k) * rate + 1) = omega arith in
    let r : all < f + (g - k) * rate + 1 = lt_of_mul-lt-mul_left g l in
    omega arith

-- all of it has arrived in the last step
all_arrived : (all g k : ℕ) → 0 < g → k ≡ g → k * all / g ≡ all
all_arrived all g k pos e = rw e (mul-div_cancel_left all pos)

-- the green steps left discharge what waits and what is still to arrive, where they can
serves_all : (all g rate n k waiting : ℕ) → 0 < g → 0 < k → k + n ≡ g + 1 → all ≤ rate * g →
    waiting + (all - (k - 1) * all / g) ≤ n * rate → sum (served all g rate n k waiting) ≡ waiting + (all - (k - 1) * all / g)
unfolding served served_of received sum
serves_all all g rate zero k waiting pos first steps enough fits =
    omega (arith, all_arrived all g (k - 1) pos (omega arith))
serves_all all g rate (suc n) k waiting pos first steps enough fits =
    let f = (k - 1) * all / g in
    let f' = k * all / g in
    let queue = waiting + (f' - f) in
    let up = more_arrived all g (k - 1) k pos (omega arith) in
    let most = arrived_le all g k (omega arith) in
    let left = rest_served all g rate k pos (omega arith) enough in
    let e : g - k ≡ n = omega arith in
    let later : all - f' ≤ n * rate = (rw e at left) in
    let q : suc k - 1 ≡ k = omega arith in
    let ih = serves_all all g rate n (suc k) (queue - min queue rate) pos (omega arith) (omega arith) enough in
    let jh = (rw q at ih) (omega arith) in
    omega (arith, jh)

-- a green that can serve a cycle's demand discharges all of it
pub green_sum : (t all g rate : ℕ) → all ≤ t → t ≤ rate * g → sum (served all g rate g 1 (t - all)) ≡ t
unfolding served sum
green_sum t all zero rate h enough = omega arith
green_sum t all (suc n) rate h enough =
    let y : (1 - 1) * all ≡ 0 = omega arith in
    let z : (1 - 1) * all / suc n ≡ 0 = rw (y, zero-div) in
    omega (arith, serves_all all (suc n) rate (suc n) 1 (t - all) (omega arith) (omega arith) (omega arith) (omega arith) (omega arith))

-- the profile of an entry adds to T: its green serves the discharge volume, since that is no more than the capacity
pub profile_sum : (c : ℕ) (green : Green) (saturation p o : ℕ) → 0 < c → p ≤ most_arriving → o * c ≤ flow_units saturation * green.steps →
    sum (profile_of c green saturation p o) ≡ o * c
unfolding profile_of green_flows queue_of landed carried
profile_sum c green saturation p o pos part serves =
    landed_sum c _ 1 (green_flows green.steps (queue_of c saturation p o)) pos
    ∙ green_sum (carried c o) (green_arrivals (carried c o) p) green.steps _ (green_arrivals_le (carried c o) p part) (omega arith)

-- no step discharges more than the green can serve
served_le : (all g rate n k waiting : ℕ) (i : ℕ) → get_or (served all g rate n k waiting) i 0 ≤ rate
unfolding served served_of
served_le all g rate zero k waiting i = omega arith
served_le all g rate (suc n) k waiting zero = omega arith
served_le all g rate (suc n) k waiting (suc i) =
    served_le all g rate n (suc k) (served_of (waiting + received all g k) rate).waiting i

pub profile_le : (c : ℕ) (green : Green) (saturation p o : ℕ) → GreenFits c green → (i : ℕ) →
    get_or (profile_of c green saturation p o) i 0 ≤ flow_units saturation
unfolding profile_of green_flows queue_of
profile_le c green saturation p o w i =
    let q = queue_of c saturation p o in
    let g = green.steps in
    landed_le c _ (flow_units saturation) (green_flows g q)
    (omega (arith, w.steps, flows_length g q))
    (served_le q.arriving g q.rate g 1 q.waiting) i

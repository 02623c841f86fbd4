-- Laws of specs/GreenOrder.antt: The discharge in green order: each green step discharges the smaller of the rate and what waits.
use Rattle.std.specs.Prelude.{ℕ, zero, suc, ◌+◌, ◌-◌, ◌*◌, ◌/◌, min, ◌≤◌, ◌<◌, ◌≡◌, refl, length, get_or, take}
use Rattle.std.proofs.Common.{arith, ap, ◌∙◌}
use Rattle.std.proofs.Math.Nat.{zero-div, sub-zero, min_comm}
use Rattle.lists.specs.Lists.{sum, number_at}
use Rattle.platoon.specs.declared.Queue.{Queue}
use Rattle.platoon.specs.Discharge.{received, served_of, served, green_flows}
use Rattle.platoon.specs.GreenOrder.{more_arrived}

-- what was discharged is taken off before or after the rest arrives
less : (waiting a b c sent before : ℕ) → a ≤ b → b ≤ c → sent ≤ waiting + (b - a) →
    waiting + (b - a) - sent + (c - b) - before ≡ waiting + (c - a) - (sent + before)
less waiting a b c sent before h r fits = omega arith

-- from green step k on, with so many waiting: number i, from 0, by what has arrived since and what was discharged before
served_at : (all g rate n k waiting i : ℕ) → 0 < g → i < n →
    get_or (served all g rate n k waiting) i 0
    ≡ min rate (waiting + ((k + i) * all / g - (k - 1) * all / g) - sum (take i (served all g rate n k waiting)))
unfolding served served_of received sum
served_at all g rate zero k waiting i pos h = absurd (omega arith)
served_at all g rate (suc n) k waiting zero pos h = let e : k + 0 ≡ k = omega arith in rw (e, sub-zero) (min_comm _ rate)
served_at all g rate (suc n) k waiting (suc i) pos h =
    let queue = waiting + (k * all / g - (k - 1) * all / g) in
    let e : suc k + i ≡ k + suc i = omega arith in
    let b : suc k - 1 ≡ k = omega arith in
    let ih = served_at all g rate n (suc k) (queue - min queue rate) i pos (omega arith) in
    let to = more_arrived all g (k - 1) k pos (omega arith) in
    let on = more_arrived all g k (k + suc i) pos (omega arith) in
    (rw (e, b) at ih) ∙ ap (min rate) (less waiting _ _ _ (min queue rate) _ to on (omega arith))

-- green step k: what waited at the start and what has arrived by now, less what was discharged before
pub green_step_lem : (g : ℕ) (q : Queue) (k : ℕ) → 0 < k → k ≤ g →
    number_at (green_flows g q) k ≡ min q.rate (q.waiting + k * q.arriving / g - sum (take (k - 1) (green_flows g q)))
unfolding green_flows
green_step_lem g q k first fits =
    let all = q.arriving in
    let e : 1 + (k - 1) ≡ k = omega arith in
    let z : (1 - 1) * all ≡ 0 = omega arith in
    let none : 0 / g ≡ 0 = zero-div g in
    served_at all g q.rate _ 1 q.waiting (k - 1) (omega arith) (omega arith) ∙ rw (e, z, none) (ap (min q.rate) (omega arith))

-- a number for each green step
pub served_length : (all g rate n k waiting : ℕ) → length (served all g rate n k waiting) ≡ n
unfolding served
served_length all g rate zero k waiting = refl
served_length all g rate (suc n) k waiting =
    ap suc (served_length all g rate n (suc k) (served_of (waiting + received all g k) rate).waiting)

pub flows_length : (g : ℕ) (q : Queue) → length (green_flows g q) ≡ g
unfolding green_flows
flows_length g q = served_length q.arriving g q.rate g 1 q.waiting

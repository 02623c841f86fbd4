-- Laws of specs/Steps.antt: What an entry discharges in each step of the cycle.
use Rattle.std.specs.Prelude.{ℕ, ◌+◌, ◌-◌, min, ◌≤◌, ◌<◌, false, ◌≡◌, List, length, take}
use native.Mathlib.Omega.{arith}
use Rattle.std.proofs.Common.{ap, sym, ◌∙◌, length-take-le, get_or-take, ltb-false}
use Rattle.std.proofs.Math.ListN.{get_or-eq_default}
use Rattle.lists.specs.Lists.{tab, tab_at, tab_is, number_at}
use Rattle.movements.specs.Movements.{flow_units}
use Rattle.signal.specs.declared.Green.{Green}
use Rattle.signal.specs.Turn.{earlier}
use Rattle.signal.specs.Greens.{GreenFits, green_step, in_green}
use Rattle.signal.proofs.Greens.{green_pos, green_le, in_green_earlier, earlier_green}
use Rattle.signal.specs.Landing.{landing, landed}
use Rattle.signal.proofs.Landing.{landing_is}
use Rattle.platoon.specs.Discharge.{carried, green_arrivals, queue_of, green_flows, profile_of}
use Rattle.platoon.proofs.GreenOrder.{green_step_lem, flows_length}
use Rattle.platoon.specs.Steps.{waits_in}

module _ (c : ℕ) (green : Green) (saturation p o : ℕ) (w : GreenFits c green) where
  abbrev flows : List ℕ
  flows = green_flows green.steps (queue_of c saturation p o)

  long : length flows ≡ green.steps
  long = flows_length green.steps (queue_of c saturation p o)

  -- number s of the profile is that of the step that stands before it
  at_step : (s : ℕ) → 0 < s → s ≤ c → number_at (profile_of c green saturation p o) s ≡ number_at flows (earlier c green.start.0 s)
  unfolding profile_of landed
  at_step s pos fits =
      let b = green.start.0 in
      let e : 1 + (s - 1) ≡ s = omega arith in
      tab_at (λ n. landing c b n 1 flows) 1 c (s - 1) (omega arith) ∙ rw e (landing_is c b s flows pos fits (omega (arith, w.steps, long)))

  -- green step k: number k in green order
  in_order : (k : ℕ) → 0 < k → k ≤ green.steps → number_at (profile_of c green saturation p o) (green_step c green k) ≡ number_at flows k
  in_order k first fits =
      let h : k ≤ c = omega (arith, w.steps) in
      at_step (green_step c green k) (green_pos c green k) (green_le c green k (omega arith)) ∙ ap (number_at flows) (earlier_green c green k w first h)

  -- the first of them, in the cycle
  first_flows : (n : ℕ) → n ≤ green.steps → take n flows ≡ tab (λ j. number_at (profile_of c green saturation p o) (green_step c green j)) 1 n
  first_flows n fits =
      tab_is _ 1 n (take n flows) (length-take-le n flows (omega (arith, long)))
      (λ j h. let e : 1 + j - 1 ≡ j = omega arith in get_or-take n flows j 0 h ∙ sym (in_order (1 + j) (omega arith) (omega arith) ∙ rw e))

  -- green step k: the smaller of 1000·saturation and what waits
  pub profile_green : (k : ℕ) → 0 < k → k ≤ green.steps →
      number_at (profile_of c green saturation p o) (green_step c green k)
      ≡ min (flow_units saturation) (waits_in c green (carried c o) (green_arrivals (carried c o) p) (profile_of c green saturation p o) k)
  unfolding waits_in queue_of
  profile_green k first fits =
      in_order k first fits ∙ green_step_lem green.steps (queue_of c saturation p o) k first fits ∙ rw (first_flows (k - 1) (omega arith))

  -- a step that is not green: 0
  pub profile_red : (s : ℕ) → 0 < s → s ≤ c → in_green c green s ≡ false → number_at (profile_of c green saturation p o) s ≡ 0
  profile_red s pos fits red =
      let b = green.start.0 in
      let past = ltb-false (earlier c b s - 1) green.steps (sym (in_green_earlier c green w s pos fits) ∙ red) in
      at_step s pos fits ∙ get_or-eq_default flows 0 {n = earlier c b s - 1} (omega (arith, long))

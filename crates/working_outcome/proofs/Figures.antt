-- The figures of a filled output, run by run.
use Rattle.std.proofs.Common.{ℕ, ◌+◌, ◌*◌, ◌≤◌, ◌<◌, ◌≡◌, ◌∙◌, List, length, take, drop, arith}
use Rattle.std.proofs.lemmas.List.{drop-drop}
use Rattle.lists.specs.Lists.{sum}
use Rattle.segment.specs.declared.Segment.{Segment}
use Rattle.dispersion.specs.Dispersion.{arrival_time_of}
use Rattle.arrivals.proofs.Laws.{run_of_lem, runs_length}
use Rattle.exit_figures.specs.declared.ExitFigures.{ExitFigures}
use Rattle.exit_figures.specs.ExitFigures.{figures_of, blocked_steps}
use Rattle.balance_decision.specs.declared.Decision.{Decision}
use Rattle.propagation.specs.Propagation.{flow_at}
use Rattle.working_outcome.specs.declared.Working.{Working}
use Rattle.working_outcome.specs.Answer.{run_of, worked_of}
use Rattle.working_outcome.specs.Filled.{Filled}

module _ {s : Segment} {rows : List (List ℕ)} {output : List ℕ} (f : Filled s rows output) where
  pub output_long : 4 * s.cycle ≤ length output
  output_long = rw f.is (omega (arith, runs_length s.cycle (flow_at s rows) f.rest))

  -- exit j's run, at the front of what the runs before it leave
  run_is : (j : ℕ) → j < 4 → take s.cycle (drop (j * s.cycle) output) ≡ run_of s rows j
  unfolding run_of
  run_is j h = rw f.is (run_of_lem s.cycle (flow_at s rows) f.rest j h)

  -- the four runs, cut one after another
  module _ {r1 r2 r3 : List ℕ} (e1 : r1 ≡ drop s.cycle output) (e2 : r2 ≡ drop s.cycle r1) (e3 : r3 ≡ drop s.cycle r2) where
    second_rest : r2 ≡ drop (2 * s.cycle) output
    second_rest = let q : s.cycle + s.cycle ≡ 2 * s.cycle = omega arith in e2 ∙ rw (e1, drop-drop s.cycle s.cycle output, q)

    third_rest : r3 ≡ drop (3 * s.cycle) output
    third_rest = let q : 2 * s.cycle + s.cycle ≡ 3 * s.cycle = omega arith in e3 ∙ rw (second_rest, drop-drop s.cycle (2 * s.cycle) output, q)

    left_run : take s.cycle output ≡ run_of s rows 0
    left_run = let q : 0 * s.cycle ≡ 0 = omega arith in rw q at (run_is 0 (omega arith))

    through_run : take s.cycle r1 ≡ run_of s rows 1
    through_run = let q : 1 * s.cycle ≡ s.cycle = omega arith in rw e1 (rw q at (run_is 1 (omega arith)))

    right_run : take s.cycle r2 ≡ run_of s rows 2
    right_run = rw second_rest (run_is 2 (omega arith))

    access_run : take s.cycle r3 ≡ run_of s rows 3
    access_run = rw third_rest (run_is 3 (omega arith))

-- the answer from its fields, each exit's read from its run
pub worked_is : {s : Segment} {w : Decision} {output left r1 through r2 right r3 access : List ℕ} {a : ℕ} {l t r : ExitFigures} {d b : ℕ} →
    Filled s w.pairs.rows output → r1 ≡ drop s.cycle output → r2 ≡ drop s.cycle r1 → r3 ≡ drop s.cycle r2 →
    left ≡ take s.cycle output → through ≡ take s.cycle r1 → right ≡ take s.cycle r2 → access ≡ take s.cycle r3 →
    a ≡ arrival_time_of s.running → l ≡ figures_of s.downstream.left left → t ≡ figures_of s.downstream.through through →
    r ≡ figures_of s.downstream.right right → d ≡ sum access → b ≡ blocked_steps s.headway through →
    ◌≡◌ {A = Working}
    (record { sum = w.sum; arrival = a; rounds = w.rounds; pairs = w.pairs; left = l; through = t; right = r; access = d; blocked = b })
    (worked_of s w)
unfolding worked_of
worked_is f e1 e2 e3 c0 c1 c2 c3 ea el et er ed eb =
    let run0 = c0 ∙ left_run f e1 e2 e3 in
    let run1 = c1 ∙ through_run f e1 e2 e3 in
    let run2 = c2 ∙ right_run f e1 e2 e3 in
    let run3 = c3 ∙ access_run f e1 e2 e3 in
    rw (ea, el, et, er, ed, eb, run0, run1, run2, run3)

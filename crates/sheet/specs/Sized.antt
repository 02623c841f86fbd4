-- The sheet of every record that is decided to work fits its page.
use Rattle.std.specs.Prelude.{ℕ, ◌^◌, ◌<◌, ◌≡◌, List, length, get_or, Ok}
use Rattle.std.proofs.Common.{arith, sym, subst}
use Rattle.lists.specs.Lists.{tab_length}
use Rattle.runs.specs.Runs.{run_at}
use Rattle.octets.specs.Octets.{word4}
use Rattle.segment.specs.declared.Segment.{Segment}
use Rattle.segment.specs.Layout.{number_at}
use Rattle.segment.specs.Segment.{segment_of}
use Rattle.ranges.specs.Ranges.{Ranges}
use Rattle.exit_figures.specs.declared.ExitFigures.{ExitFigures}
use Rattle.balance_decision.specs.declared.Decision.{Decision}
use Rattle.propagation.specs.Propagation.{Profiles, flow_at, filled_of}
use Rattle.working_outcome.specs.declared.Working.{Working}
use Rattle.working_outcome.specs.Answer.{run_of, worked_of}
use Rattle.working_outcome.specs.Filled.{filled_run}
use Rattle.working.specs.Working.{decision_for, call_of}
use Rattle.working.proofs.Ways.{call_worked}
use Rattle.working.specs.Sizes.{ExitSized, worked_sized, run_sized}
use Rattle.sheet_page.specs.Fits.{ExitFits, SheetFits}

exit_fits : (f : ExitFigures) → ExitSized f → ExitFits f
exit_fits f h = record { total = omega (arith, h.total); green = omega (arith, h.total, h.green); permille = omega (arith, h.permille) }

module _ (s : Segment) (r : Ranges s) (d : Decision) (e : decision_for s ≡ Ok d) (p : Profiles) where
  abbrev rows : List (List ℕ)
  rows = d.pairs.rows

  through_length : length (run_of s rows 1) ≡ s.cycle
  unfolding run_of
  through_length = tab_length (flow_at s rows 1) 1 s.cycle

  -- what the working answers and leaves, on a record with a number of four bytes
  pub sheet_sized : (number : ℕ) → number < 2 ^ 32 → SheetFits number s.cycle (worked_of s d) (run_at s.cycle 1 (filled_of s rows p).output)
  sheet_sized number four =
      let w = worked_sized s r d e in
      rw (filled_run s rows p 1 (omega arith))
      (record {
        ten = omega arith;
        three = omega (arith, r.cycle);
        arrival = w.arrival;
        rounds = omega (arith, w.rounds);
        four = w.four;
        pairs = λ i j m. omega (arith, w.pairs i j m);
        left = exit_fits _ w.left;
        through = exit_fits _ w.through;
        right = exit_fits _ w.right;
        flows = λ i. omega (arith, run_sized s r d e 1 (omega arith) i);
        steps = omega (arith, through_length, r.cycle);
      })

-- ---- of a call that works, on bytes

module _ (l : List ℕ) (bytes : (i : ℕ) → get_or l i 0 < 256) where
  pub number_small : word4 l number_at < 2 ^ 32
  unfolding word4
  number_small = omega (arith, bytes 0, bytes 1, bytes 2, bytes 3)

  pub called_sized : (p : Profiles) (w : Working) → (call_of l p).answer ≡ Ok w →
      SheetFits (word4 l number_at) (segment_of l).cycle w (run_at (segment_of l).cycle 1 (call_of l p).after.output)
  called_sized p w e =
      let b = call_worked l p w e in
      let s = b.segment in
      let fits : SheetFits (word4 l number_at) (segment_of l).cycle (worked_of s b.decision)
      (run_at (segment_of l).cycle 1 (call_of l p).after.output) =
      rw (b.is, ← b.accepted.is) (sheet_sized s b.accepted.ranges b.decision b.works p (word4 l number_at) number_small) in
      subst (λ (v : Working). SheetFits (word4 l number_at) (segment_of l).cycle v (run_at (segment_of l).cycle 1 (call_of l p).after.output))
      (sym b.answer) fits

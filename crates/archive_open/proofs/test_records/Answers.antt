-- A turn of the pass is the tests of one record, and then what the records left come to; with none left, the three last tests.
use Rattle.std.proofs.Common.{rules, arith, sym, ◌∙◌, eqb-true}
use Rattle.refusal.specs.Refusal.{need, ladder, holds}
use Rattle.archive_open.proofs.Loops.{follows, testing_start, testing_turn, testing_on, testing_end}
use Rattle.archive_open.proofs.test_records.Goals as goal

pub loop-i-init : goal.loop-i-init
loop-i-init c = testing_start _ _ _ _

pub returns-in_err-need : goal.returns-in_err-need
unfolding need
returns-in_err-need c = search (rules, ladder, testing_turn c.loop-i.invariant c.args.e.sized.0 (omega arith))

pub returns-in_err-next : goal.returns-in_err-next
unfolding need
returns-in_err-next c = search (rules, ladder, testing_turn c.loop-i.invariant c.args.e.sized.0 (omega arith))

pub slice_bounds-printable-count : goal.slice_bounds-printable-count
slice_bounds-printable-count c = omega (arith, follows c.in_ok-next.next (sym c.in_ok-next.ensures))

pub slice_bounds-printable-start : goal.slice_bounds-printable-start
slice_bounds-printable-start c = omega (arith, follows c.in_ok-next.next (sym c.in_ok-next.ensures))

pub slice_bounds-printable-end : goal.slice_bounds-printable-end
slice_bounds-printable-end c = omega (arith, follows c.in_ok-next.next (sym c.in_ok-next.ensures))

pub loop-i-preserved : goal.loop-i-preserved
loop-i-preserved c =
    testing_on c.loop-i.invariant c.args.e.sized.0 (omega arith)
    (sym c.place_at.ensures.0 ∙ eqb-true _ _ (holds _ _ _ _ c.need.ensures c.in_ok-need.was)) (sym c.in_ok-next.ensures) c.printable-titled.ensures
    c.word4_at-number.ensures

pub returns-in_err-need-2 : goal.returns-in_err-need-2
unfolding need
returns-in_err-need-2 c = search (rules, ladder, testing_end c.loop-i.invariant (omega arith))

pub returns-in_err-need-3 : goal.returns-in_err-need-3
unfolding need
returns-in_err-need-3 c = search (rules, ladder, testing_end c.loop-i.invariant (omega arith))

pub returns-in_err-need-4 : goal.returns-in_err-need-4
unfolding need
returns-in_err-need-4 c = search (rules, ladder, testing_end c.loop-i.invariant (omega arith))

pub returns : goal.returns
unfolding need
returns c = search (rules, ladder, testing_end c.loop-i.invariant (omega arith))

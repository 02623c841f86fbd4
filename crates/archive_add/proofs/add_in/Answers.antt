-- What opening refuses; then the tests in order, and behind them the archive is written.
use Rattle.std.proofs.Common.{rules, arith, length, leb-true, ltb-true, eqb-true, sym, ◌∙◌}
use Rattle.refusal.specs.Refusal.{need, ladder, holds}
use Rattle.archive_open.specs.Opened.{held, held_fits}
use Rattle.archive_add.proofs.Answers.{held_small, held_next, short_title, refused_as, add_tests, add_done}
use Rattle.archive_add.proofs.add_in.Goals as goal

pub returns-in_err-need : goal.returns-in_err-need
unfolding need
returns-in_err-need c =
    let h = held c.in_ok-archive.archive c.in_ok-archive.ensures in
    let tests = add_tests c.args.added.bytes.now c.args.added.title.now h (λ i. omega (arith, c.type_inv.bytes i)) (length c.args.out.now) in
    refused_as c.in_err-need.field-0.0 (search rules) (search (rules, ladder, tests))

pub returns-in_err-need-2 : goal.returns-in_err-need-2
unfolding need
returns-in_err-need-2 c =
    let h = held c.in_ok-archive.archive c.in_ok-archive.ensures in
    let tests = add_tests c.args.added.bytes.now c.args.added.title.now h (λ i. omega (arith, c.type_inv.bytes i)) (length c.args.out.now) in
    refused_as c.in_err-need-2.field-0.0 (search rules) (search (rules, ladder, tests))

pub returns-in_err-need-3 : goal.returns-in_err-need-3
unfolding need
returns-in_err-need-3 c =
    let h = held c.in_ok-archive.archive c.in_ok-archive.ensures in
    let tests = add_tests c.args.added.bytes.now c.args.added.title.now h (λ i. omega (arith, c.type_inv.bytes i)) (length c.args.out.now) in
    refused_as c.in_err-need-3.field-0.0 (search rules) (search (rules, ladder, tests))

-- the new length is no number that wraps
pub overflow_add-length : goal.overflow_add-length
overflow_add-length c = omega (arith, held_small _ _ (held c.in_ok-archive.archive c.in_ok-archive.ensures) c.args.e.sized)

pub overflow_add-length-2 : goal.overflow_add-length-2
overflow_add-length-2 c = omega (arith, held_small _ _ (held c.in_ok-archive.archive c.in_ok-archive.ensures) c.args.e.sized)

pub overflow_add-length-3 : goal.overflow_add-length-3
overflow_add-length-3 c = omega (arith, held_small _ _ (held c.in_ok-archive.archive c.in_ok-archive.ensures) c.args.e.sized)

pub overflow_mul-length : goal.overflow_mul-length
overflow_mul-length c = omega (arith, held_small _ _ (held c.in_ok-archive.archive c.in_ok-archive.ensures) c.args.e.sized)

pub overflow_add-length-4 : goal.overflow_add-length-4
overflow_add-length-4 c = omega (arith, held_small _ _ (held c.in_ok-archive.archive c.in_ok-archive.ensures) c.args.e.sized)

pub overflow_add-length-5 : goal.overflow_add-length-5
overflow_add-length-5 c = omega (arith, held_small _ _ (held c.in_ok-archive.archive c.in_ok-archive.ensures) c.args.e.sized)

pub returns-in_err-need-4 : goal.returns-in_err-need-4
unfolding need
returns-in_err-need-4 c =
    let h = held c.in_ok-archive.archive c.in_ok-archive.ensures in
    let tests = add_tests c.args.added.bytes.now c.args.added.title.now h (λ i. omega (arith, c.type_inv.bytes i)) (length c.args.out.now) in
    let record-holds = holds _ _ _ _ c.need.ensures c.in_ok-need.was in
    let title-holds = sym c.title_fits.ensures ∙ holds _ _ _ _ c.need-2.ensures c.in_ok-need-2.was in
    let order-holds = rw c.word4_at-number.ensures at (holds _ _ _ _ c.need-3.ensures c.in_ok-need-3.was) in
    refused_as c.in_err-need-4.field-0.0 (search rules) (tests ∙ rw (record-holds, title-holds, order-holds) (search (rules, ladder)))

pub returns-in_err-need-5 : goal.returns-in_err-need-5
unfolding need
returns-in_err-need-5 c =
    let h = held c.in_ok-archive.archive c.in_ok-archive.ensures in
    let tests = add_tests c.args.added.bytes.now c.args.added.title.now h (λ i. omega (arith, c.type_inv.bytes i)) (length c.args.out.now) in
    refused_as c.in_err-need-5.field-0.0 (search rules) (search (rules, ladder, tests))

pub grow-n-requires : goal.grow-n-requires
grow-n-requires c =
    let h = held c.in_ok-archive.archive c.in_ok-archive.ensures in
    let sized = eqb-true _ _ (holds _ _ _ _ c.need.ensures c.in_ok-need.was) in
    let short = short_title c.args.added.title.now (sym c.title_fits.ensures ∙ holds _ _ _ _ c.need-2.ensures c.in_ok-need-2.was) in
    let room = leb-true _ _ (holds _ _ _ _ c.need-4.ensures c.in_ok-need-4.was) in
    let few = ltb-true _ _ (holds _ _ _ _ c.need-5.ensures c.in_ok-need-5.was) in
    record {
      few = few;
      short = omega (arith, short);
      placed = omega (arith, held_next _ _ h _ c.args.e.sized few short, sized);
      held = omega (arith, held_fits _ _ h);
      enough = omega (arith, room, sized);
    }

pub returns : goal.returns
unfolding need
returns c =
    let h = held c.in_ok-archive.archive c.in_ok-archive.ensures in
    let tests = add_tests c.args.added.bytes.now c.args.added.title.now h (λ i. omega (arith, c.type_inv.bytes i)) (length c.args.out.now) in
    let sized = eqb-true _ _ (holds _ _ _ _ c.need.ensures c.in_ok-need.was) in
    let room = leb-true _ _ (holds _ _ _ _ c.need-4.ensures c.in_ok-need-4.was) in
    add_done _ _ h (λ i. omega (arith, c.type_inv.bytes i)) c.args.out.now sized room (search (rules, ladder, tests)) c.grow-n.ensures

-- The record lies in the archive, and those after it are walked.
use Rattle.std.proofs.Common.{◌-◌, rules, arith}
use Rattle.archive_open.specs.Walking.{walk_fits, walk_on}
use Rattle.archive_open.proofs.records.RecordsIterator.next.Goals as goal

pub overflow_add-record : goal.overflow_add-record
overflow_add-record c = omega (arith, walk_fits c.requires (omega arith))

pub slice_bounds-record-end : goal.slice_bounds-record-end
slice_bounds-record-end c = omega (arith, walk_fits c.requires (omega arith))

pub next_place-self-requires : goal.next_place-self-requires
next_place-self-requires c = omega (arith, walk_fits c.requires (omega arith))

pub returns-clause-goes : goal.returns-clause-goes
returns-clause-goes c =
    let on = walk_on c.requires (c.args.self.now.left - 1) (omega arith) c.next_place-self.ensures in
    search (rules, arith)

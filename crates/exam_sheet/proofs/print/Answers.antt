-- The buffer has room for every text.
use Rattle.std.proofs.Common.{refl}
use Rattle.exam_sheet.proofs.Room.{counted, roomy}
use Rattle.exam_sheet.proofs.print.Goals as goal

pub slice_bounds-run-end-2 : goal.slice_bounds-run-end-2
slice_bounds-run-end-2 g c = counted 2242560

pub run-requires-clause-room : goal.run-requires-clause-room
run-requires-clause-room g c = roomy _ 2242560 refl

pub returns : goal.returns
returns g c = c.run.ensures

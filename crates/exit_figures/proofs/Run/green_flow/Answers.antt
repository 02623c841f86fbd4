-- The two parts of the run that the green's steps take.
use Rattle.std.proofs.Common.{arith}
use Rattle.signal.proofs.Parts.{parted_at}
use Rattle.exit_figures.proofs.Sums.{green_flow_parts}
use Rattle.exit_figures.proofs.Run.green_flow.Goals as goal

pub returns : goal.returns
returns c =
    let run = c.split_at.ensures in
    let parted = parted_at (omega (arith, c.requires.start)) c.place_after-place.ensures.place run.front run.back in
    green_flow_parts c.requires parted c.min-first.ensures c.total.ensures.sum c.total-2.ensures.sum

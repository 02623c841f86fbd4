-- The run's two parts hold the whole discharge of the green.
use Rattle.std.proofs.Common.{arith}
use Rattle.signal.proofs.Parts.{parted_at}
use Rattle.platoon.proofs.Serving.{released_none, front_empty, back_empty, released}
use Rattle.platoon.proofs.release.Goals as goal

pub returns-then-g-eq0 : goal.returns-then-g-eq0
returns-then-g-eq0 c = released_none _ _ _ c.if-g-eq0.true

pub returns : goal.returns
returns c =
    let fits = c.requires.green_fits.1 in
    let place = c.place_after.ensures in
    let run = c.split_at_mut-again.ensures in
    let again_empty = front_empty c.place_after.result c.requires.run_value place.within run.front in
    let ahead_empty = back_empty c.place_after.result c.requires.run_value run.back in
    let parted = parted_at (omega (arith, fits.start)) place.place run.front run.back in
    released fits parted c.min-first.ensures c.args.queue again_empty ahead_empty
    c.serve_steps-waiting.auto.part c.serve_steps.auto.part c.serve_steps-waiting.ensures.part c.serve_steps.ensures.part

-- The two parts of the run, each with the parts of the arrivals that land in it.
use Rattle.signal.proofs.Parts.{parted_at}
use Rattle.arrivals.proofs.Landing.{landed_parts}
use Rattle.arrivals.proofs.land.Goals as goal

pub returns : goal.returns
returns g c =
    let s = g.S.Share in
    let long = g.met.S.Share.long in
    let run = c.split_at_mut-again.ensures in
    let arrived = c.split_at.ensures in
    let before = c.args.share in
    let now = c.add_parts.new.share in
    let parted = parted_at c.requires.fits.some c.place_after.ensures.place run.front run.back in
    rw (c.add_parts.ensures.added, c.add_parts-2.ensures.added)
    (landed_parts c.requires.fits parted arrived.front arrived.back (s.parts before) (s.parts now) (long before) (long now) c.add_parts.ensures.to_come)

-- The queue is what release asks; what it leaves is the profile.
use Rattle.platoon.proofs.Serving.{release_asks, profile_is}
use Rattle.platoon.proofs.discharge_profile.Goals as goal

pub release-requires-clause-waiting_le_cycle_bound :
    goal.release-requires-clause-waiting_le_cycle_bound
release-requires-clause-waiting_le_cycle_bound c =
    let fits = c.requires.run_len_bound in
    let small = c.requires.saturation_le_flow_limit in
    release_asks c.args.run.now (c.fill.ensures.after (λ y e. e)) fits.1 _ _ _ c.queue_of-queue.ensures fits.0 small.1 small.2

pub returns : goal.returns
returns c = profile_is c.args.run.now (c.fill.ensures.after (λ y e. e)) c.requires.run_len_bound.1 _ _ _ c.queue_of-queue.ensures c.release.ensures

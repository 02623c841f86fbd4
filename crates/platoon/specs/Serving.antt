-- Serving some steps of a green, in a part of the cycle's run.
use Rattle.std.specs.Prelude.{ℕ, ◌+◌, ◌*◌, ◌≤◌, ◌<◌, ◌≡◌, List, ◌++◌, length}
use Rattle.limits.specs.Limits.{step_bound}
use Rattle.platoon.specs.declared.Queue.{Queue}
use Rattle.platoon.specs.Discharge.{cycle_bound, served}

-- of the steps of a green of g so many are gone, and the next are those of the part
pub record ServeFits (queue : Queue) (g gone : ℕ) (part : List ℕ) : Type 0 where
  -- what has arrived is shared by g
  pub green : 0 < g
  pub steps : gone + length part ≤ g
  -- a step's number times what arrives fits in 64 bits
  pub short : g < step_bound
  pub arriving : queue.arriving ≤ cycle_bound
  -- the second part begins with what waited as the green began and what has arrived since, each within the bound
  pub waiting : queue.waiting ≤ 2 * cycle_bound

-- the part holds what its n steps discharge, and what waits after them goes on: with any steps more, the same as served at once
pub record ServedPart (queue : Queue) (g gone n : ℕ) (part : List ℕ) (waiting : ℕ) : Type 0 where
  pub goes_on : (m : ℕ) →
      served queue.arriving g queue.rate (n + m) (gone + 1) queue.waiting ≡ part ++ served queue.arriving g queue.rate m (gone + 1 + n) waiting

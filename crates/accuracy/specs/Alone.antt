-- What a part shuts out by itself. Part 2: a working that hands on an entry's discharge undispersed, wherever the entry's last step
-- discharges; and work profiles that hold the right entry's so, wherever its last step is D / (D - N) or more from the level that the cycles
-- before left. Part 3: an exit that gets all of an entry's arrivals, where its share is less.
use Rattle.std.specs.Prelude.{ℕ, ◌-◌, ◌≤◌, ◌<◌, ◌≡◌, List, get_or}
use Rattle.std.proofs.Common.{arith, mul-le-mul_right, mul-lt-mul_of_pos_right}
use Rattle.lists.specs.Lists.{sum}
use Rattle.segment.specs.declared.Entry.{Entry}
use Rattle.segment.specs.declared.Segment.{Segment}
use Rattle.metering.specs.Metering.{discharge_volume}
use Rattle.entries.specs.Entries.{entry_profile}
use Rattle.dispersion.specs.Dispersion.{smoothing, divisor_of}
use Rattle.pair_parts.specs.PairParts.{Shared}
use Rattle.exact_dispersion.specs.ExactDispersion.{departed, Balanced}
use Rattle.propagation.specs.Propagation.{cycles, pair_of}
use Rattle.accuracy.specs.Accuracy.{EntryHolds}

-- what goes on as it was discharged, in every cycle, is not balanced where the last of it is not 0
unbalanced : (running all last : ℕ) → 0 < last → Balanced running all all last → ⊥
unfolding divisor_of
unbalanced running all last pos b =
    let spread : 1 ≤ divisor_of running - smoothing = omega arith in
    omega (arith, b.from_zero, mul-le-mul_right last spread)

pub undispersed_shut : (s : Segment) (e : Entry) (v : ℕ → ℕ) → 0 < get_or (entry_profile s.cycle e) (s.cycle - 1) 0
    → EntryHolds s e v (departed (entry_profile s.cycle e) cycles) (entry_profile s.cycle e) → ⊥
undispersed_shut s e v pos h = unbalanced s.running _ _ pos h.balanced

above : (v w a : ℕ) → v < w → 0 < a → Shared v w a a → ⊥
above v w a less pos h = omega (arith, h.never_above, mul-lt-mul_of_pos_right less pos)

pub unshared_shut : (s : Segment) (e : Entry) (v : ℕ → ℕ) (all : ℕ) (last : List ℕ) (exit : ℕ) → exit < 4 → v exit < discharge_volume s.cycle e
    → 0 < sum last → sum (pair_of s e (v exit)) ≡ sum last → EntryHolds s e v all last → ⊥
unshared_shut s e v all last exit h less pos same d = above (v exit) _ (sum last) less pos (rw same at (d.shared (omega arith) exit h))

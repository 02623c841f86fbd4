-- Laws of specs/Alone.antt: What a part shuts out by itself. Part 2: a working that hands on an entry's discharge undispersed, wherever the entry's last step
use Rattle.std.specs.Prelude.{ℕ, suc, ◌+◌, ◌-◌, ◌*◌, ◌<◌, ◌≡◌, List, take, get_or}
use Rattle.std.proofs.Common.{arith}
use Rattle.lists.specs.Lists.{sum}
use Rattle.segment.specs.declared.Segment.{Segment}
use Rattle.entries.specs.Entries.{entry_profile}
use Rattle.dispersion.specs.Dispersion.{smoothing, divisor_of}
use Rattle.exact_dispersion.specs.ExactDispersion.{departed, arrived, last_arrival, Balanced}
use Rattle.exact_dispersion.specs.Laws.{departed_more}
use Rattle.exact_dispersion.proofs.Laws.{entry_conserved}
use Rattle.propagation.specs.Propagation.{Profiles, cycles_before}
use Rattle.accuracy.specs.Accuracy.{last_cycle_in, arrived_in, EntryHolds}

-- two cycles that go on so are balanced only where their last step is near the level that the cycles before left
level_kept : (running : ℕ) (q : List ℕ) (k last : ℕ) → Balanced running (departed q (suc (suc (suc k)))) (arrived running q (suc k) + sum q + sum q) last
    → ((divisor_of running - smoothing) * last < (divisor_of running - smoothing) * last_arrival running q (suc k) + divisor_of running)
    × ((divisor_of running - smoothing) * last_arrival running q (suc k) < (divisor_of running - smoothing) * last + divisor_of running)
level_kept running q k last b =
    let before = entry_conserved running q k in
    let one = departed_more q (suc k) in
    let two = departed_more q (suc (suc k)) in
    (omega (arith, b.from_zero, before, one, two), omega (arith, b.below_divisor, before, one, two))

pub undispersed_near : (s : Segment) (v : ℕ → ℕ) (p : Profiles) → take s.cycle p.first ≡ entry_profile s.cycle s.right
    → take s.cycle p.second ≡ entry_profile s.cycle s.right → EntryHolds s s.right v (arrived_in s p) (last_cycle_in s p)
    → let q = entry_profile s.cycle s.right in
    let spread = divisor_of s.running - smoothing in
    let before = last_arrival s.running q (cycles_before - 1) in
    let last = get_or q (s.cycle - 1) 0 in
    (spread * last < spread * before + divisor_of s.running) × (spread * before < spread * last + divisor_of s.running)
unfolding arrived_in last_cycle_in
undispersed_near s v p ef es h = level_kept s.running (entry_profile s.cycle s.right) (cycles_before - 2) _ (rw (ef, es) at h.balanced)

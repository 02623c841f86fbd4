-- Each signalised entry's arrivals are near an exact flow: what the distances of exits and of points follow from.
use Rattle.std.specs.Prelude.{ℕ, ◌<◌}
use Rattle.segment.specs.declared.Segment.{Segment}
use Rattle.entries.specs.Entries.{entry_profile}
use Rattle.exact_dispersion.specs.ExactDispersion.{ExactFlow, Near}
use Rattle.propagation.specs.Propagation.{cycles}

-- by less than d / u, dispersed by a running time
pub record EntriesNear (u d : ℕ) (exact : ExactFlow) (running : ℕ) (s : Segment) : Type 0 where
  pub unit : 0 < u
  pub left : Near u d cycles exact running (entry_profile s.cycle s.left)
  pub through : Near u d cycles exact running (entry_profile s.cycle s.through)
  pub right : Near u d cycles exact running (entry_profile s.cycle s.right)

-- ---- the repeating flow

-- 64 cycles of 30 steps or more halve what the empty start lacks 45 times, 42 steps each: of 12000000 less than 1 / 2^21 is left
abbrev pub halvings : ℕ
halvings = 45

-- A record that is not metered.
use Rattle.std.specs.Prelude.{ℕ, ◌≤◌}
use Rattle.segment.specs.declared.Entry.{Entry}
use Rattle.segment.specs.declared.Segment.{Segment}
use Rattle.unmetered.specs.Cut.{cut_capacity}

-- an entry's volume is at or under its capacity in whole veh/h
abbrev pub EntryUnmetered : ℕ → Entry → Type 0
EntryUnmetered c e = e.volume ≤ cut_capacity c e

-- each signalised entry's is
pub record Unmetered (s : Segment) : Type 0 where
  pub left : EntryUnmetered s.cycle s.left
  pub through : EntryUnmetered s.cycle s.through
  pub right : EntryUnmetered s.cycle s.right

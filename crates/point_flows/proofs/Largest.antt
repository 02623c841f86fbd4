-- Laws that stood in specs/Largest.antt: The largest flow past a point, and a point at the end of the segment.
use Rattle.std.specs.Prelude.{ℕ, ◌≤◌, ◌<◌, ◌≡◌}
use Rattle.std.proofs.Common.{arith}
use Rattle.limits.specs.Limits.{flow_limit}
use Rattle.movements.specs.Movements.{flow_units}
use Rattle.segment.specs.declared.Entry.{Entry}
use Rattle.segment.specs.declared.Segment.{Segment}
use Rattle.ranges.specs.Ranges.{Ranges, EntryRanges}
use Rattle.entries.specs.Entries.{entry_profile}
use Rattle.entries.proofs.Laws.{entry_le}
use Rattle.dispersion.specs.Cycles.{reported_le}
use Rattle.propagation.specs.Propagation.{cycles, entry_arrivals}
use Rattle.propagation.specs.Largest.{largest_flow}
use Rattle.points.specs.declared.Point.{Point}
use Rattle.point_flows.specs.PointFlows.{point_arrivals, passes_in, point_flow}
use Rattle.point_flows.proofs.Laws.{passes_is}

module _ (s : Segment) (p : Point) (e : Entry) where
  passes_le : (step : ℕ) → EntryRanges s.cycle e → 0 < step → step ≤ s.cycle → passes_in s p e step ≤ flow_units flow_limit
  unfolding point_arrivals
  passes_le step r first last =
      rw (passes_is s p e step first last) (reported_le p.running (flow_units flow_limit) (entry_profile s.cycle e) cycles (entry_le s.cycle e r) _)

  -- at the record's own running time: the working's arrivals, whole
  pub at_the_end : p.running ≡ s.running → point_arrivals s p e ≡ entry_arrivals s e
  unfolding point_arrivals entry_arrivals
  at_the_end h = rw h

-- no more than the largest flow of an exit
pub point_flow_le : (s : Segment) (p : Point) (step : ℕ) → Ranges s → 0 < step → step ≤ s.cycle → point_flow s p step ≤ largest_flow
unfolding point_flow
point_flow_le s p step r first last =
    omega (
      arith,
      r.access,
      passes_le s p s.left step r.left first last,
      passes_le s p s.through step r.through first last,
      passes_le s p s.right step r.right first last,
    )

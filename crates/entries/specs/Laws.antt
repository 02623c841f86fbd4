-- An entry's profile has a number for each step, discharges as the paper says, and keeps below its saturation; the three are a profile's first runs.
use Rattle.std.specs.Prelude.{ℕ, ◌≤◌, ◌≡◌}
use Rattle.std.proofs.Common.{arith}
use Rattle.limits.specs.Limits.{entry_limit}
use Rattle.movements.specs.Movements.{flow_units}
use Rattle.segment.specs.declared.Entry.{Entry}
use Rattle.ranges.specs.Ranges.{EntryRanges}
use Rattle.metering.specs.Metering.{discharge_volume}
use Rattle.metering.proofs.Metering.{discharge_volume_entry}

pub discharge_volume_le : (c o : ℕ) (e : Entry) → EntryRanges c e → o ≡ discharge_volume c e → o ≤ flow_units entry_limit
discharge_volume_le c o e r h = omega (arith, h, discharge_volume_entry c e, r.volume)

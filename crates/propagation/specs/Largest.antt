-- The largest flow of a pair, and of an exit in a step.
use Rattle.std.specs.Prelude.{ℕ, ◌+◌, ◌*◌}
use Rattle.limits.specs.Limits.{entry_limit, flow_limit}
use Rattle.movements.specs.Movements.{flow_units}

-- access and three saturated entries: 42000000
abbrev pub largest_flow : ℕ
largest_flow = flow_units entry_limit + 3 * flow_units flow_limit

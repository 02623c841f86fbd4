-- The sixteen pair flows as a record: a row of four exits for each entry.
use Rattle.std.specs.Prelude.{ℕ, List}
use Rattle.pair_flows.specs.declared.PairFlows.{PairFlows}

abbrev pub pair_flows : List (List ℕ) → PairFlows
pair_flows g = record { rows = g }

abbrev pub rows_of : PairFlows → List (List ℕ)
rows_of x = x.rows

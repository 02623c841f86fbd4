-- The ends of the ranges that a segment record's fields lie in (paper 01, "The card"), each named once.
use Rattle.std.specs.Prelude.{ℕ}

-- in steps of one second
abbrev pub least_cycle : ℕ
least_cycle = 30

abbrev pub most_cycle : ℕ
most_cycle = 240

-- in ms
abbrev pub least_running : ℕ
least_running = 1000

abbrev pub most_running : ℕ
most_running = 300000

abbrev pub least_headway : ℕ
least_headway = 1000

abbrev pub most_headway : ℕ
most_headway = 10000

-- in veh/h: the largest volume of an entry
abbrev pub entry_limit : ℕ
entry_limit = 6000

-- in veh/h: the largest saturation flow rate, and the largest volume of an exit
abbrev pub flow_limit : ℕ
flow_limit = 12000

-- in thousandths, the whole
abbrev pub most_arriving : ℕ
most_arriving = 1000

-- no cycle, post, step or arrival time reaches it, so that the sum of a few fits in 32 bits
abbrev pub step_bound : ℕ
step_bound = 1000

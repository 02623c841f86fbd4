-- The lines so far and the blank ones left are the whole.
use Rattle.std.proofs.Common.{◌-◌}
use Rattle.buffer.specs.Pieces.{Appending}
use Rattle.page.specs.Page.{blank_lines}
use Rattle.page.proofs.blank_lines.Given as goal

abbrev pub invariant-loop : goal.invariant-loop
invariant-loop l = Appending l.fn.text (blank_lines l.n) l.text (blank_lines (l.n - l.counter))

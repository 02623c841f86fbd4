-- The next row is the front of the steps left.
use Rattle.std.proofs.Common.{◌∙◌}
use Rattle.buffer.proofs.Pieces.{appending_turn, appending_done}
use Rattle.sheet_page.proofs.Lines.{run_next, run_none}
use Rattle.sheet_page.proofs.flow_lines.Goals as goal

pub loop-row-preserved : goal.loop-row-preserved
loop-row-preserved c =
    let ten = c.loop-row.invariant.0 in
    let s = c.in-Some.ensures.steps in
    let next = run_next _ _ _ s.1.0 (rw ten at s.1.1) s.1.2 in
    (s.0 ∙ ten, appending_turn c.loop-row.invariant.1 c.columns_line.ensures _ next)

pub returns : goal.returns
returns c = appending_done c.loop-row.invariant.1 (run_none _ c.in-None.ensures.steps.1.0)

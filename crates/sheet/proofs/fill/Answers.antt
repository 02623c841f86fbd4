-- The profiles are filled, then the page from what was answered and left.
use Rattle.sheet.proofs.Deciding.{run_stands, sheet_filled}
use Rattle.sheet.proofs.fill.Goals as goal

pub put_page-requires : goal.put_page-requires
put_page-requires c = rw c.accepted.view_is (run_stands c.requires.0 c.fill-w.ensures.worked)

pub returns-clause-filled : goal.returns-clause-filled
returns-clause-filled c =
    rw (← c.accepted.view_is)
    (sheet_filled c.accepted.invariant (rw (← c.accepted.view_is) at c.requires.0) _ c.ranges.number.fits
    (rw (← c.accepted.view_is) at c.fill-w.ensures.worked) _ c.requires.1 c.put_page.ensures)

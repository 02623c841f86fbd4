-- The line of the words.
use Rattle.std.proofs.Common.{rules}
use Rattle.sheet_page.proofs.exit_line.Goals as goal

pub returns : goal.returns
returns c = c.line.ensures _ (λ worded said. search rules)

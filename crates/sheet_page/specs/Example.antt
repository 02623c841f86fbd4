-- Columns as request 3 sets them, from the definitions: right-aligned, thousands rounded down.
use Rattle.std.specs.Prelude.{◌≡◌, refl, [], ◌∷◌}
use Rattle.text.specs.Text.{digits, column, columns}
use Rattle.text.specs.Words.{bytes}
use Rattle.sheet_page.specs.SheetPage.{pair_width, pair_unit, flow_width, flow_unit}

-- the access entry of the paper's record 1
pub set_pairs : columns pair_width pair_unit (0 ∷ 360000 ∷ 0 ∷ 0 ∷ []) ≡ bytes "          0     360000          0          0"
unfolding columns column digits
set_pairs = refl

-- its flow, one unit under a thousand, a thousand, and the largest flow
pub set_flows : columns flow_width flow_unit (360000 ∷ 999 ∷ 1000 ∷ 42000000 ∷ []) ≡ bytes "    360      0      1  42000"
unfolding columns column digits
set_flows = refl

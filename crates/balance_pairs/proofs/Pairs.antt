-- Laws of specs/Pairs.antt: the rows of the four entries.
use Rattle.std.specs.Prelude.{ℕ, ◌≡◌, [], ◌∷◌, map}
use Rattle.lists.specs.Lists.{sum}
use Rattle.movements.specs.PerMovement.{Counts}
use Rattle.balance_flows.specs.Flows.{FlowTable}
use Rattle.balance_pairs.specs.Pairs.{pair_rows, row_adds_lem}

-- four numbers that are the same one by one, so that a row which adds to another is refused for that
four_same : {a b c d a' b' c' d' : ℕ} → a ≡ a' → b ≡ b' → c ≡ c' → d ≡ d' → a ∷ b ∷ c ∷ d ∷ [] ≡ a' ∷ b' ∷ c' ∷ d' ∷ []
four_same e f g h = rw (e, f, g, h)

-- each row adds to O, whatever the cells
pub rows_add : (cells : FlowTable) (o : Counts) → map sum (pair_rows cells o) ≡ o.left ∷ o.through ∷ o.right ∷ o.access ∷ []
unfolding pair_rows
rows_add cells o =
    four_same (row_adds_lem cells.left o.left) (row_adds_lem cells.through o.through) (row_adds_lem cells.right o.right)
    (row_adds_lem cells.access o.access)

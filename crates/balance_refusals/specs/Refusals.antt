-- Refusals 13 and 14, on whole numbers alone.
use Rattle.std.specs.Prelude.{ℕ, ◌+◌, Bool, ◌&&◌, ◌||◌, not, ltb, eqb}
use Rattle.movements.specs.PerMovement.{Counts, Seeds}

abbrev pub counts_total : Counts → ℕ
counts_total x = x.left + x.through + x.right + x.access

-- 13: total discharge or total exit volume 0
unfoldable pub no_volume : Counts → Counts → Bool
no_volume o exits = eqb (counts_total o) 0 || eqb (counts_total exits) 0

-- both above 0 for some movement
unfoldable pub meets : Counts → Counts → Bool
meets x y =
    (((ltb 0 x.left && ltb 0 y.left) || (ltb 0 x.through && ltb 0 y.through)) || (ltb 0 x.right && ltb 0 y.right))
    || (ltb 0 x.access && ltb 0 y.access)

-- 14: an entry with discharge that has no exit with volume and non-zero seed ("stranded" in the papers)
unfoldable pub unserved_entry : Counts → ℕ → Counts → Bool
unserved_entry exits o seeds = ltb 0 o && not (meets exits seeds)

-- 14: an exit with volume that has no entry with discharge and non-zero seed
unfoldable pub unserved_exit : Counts → ℕ → Counts → Bool
unserved_exit o exit seeds = ltb 0 exit && not (meets o seeds)

unfoldable pub any_unserved_entry : Counts → Counts → Seeds → Bool
any_unserved_entry o exits s =
    ((unserved_entry exits o.left s.left || unserved_entry exits o.through s.through) || unserved_entry exits o.right s.right)
    || unserved_entry exits o.access s.access

-- one exit's seeds, by entry
abbrev pub exit_seeds : (Counts → ℕ) → Seeds → Counts
exit_seeds exit s = record { left = exit s.left; through = exit s.through; right = exit s.right; access = exit s.access }

unfoldable pub any_unserved_exit : Counts → Counts → Seeds → Bool
any_unserved_exit o exits s =
    ((unserved_exit o exits.left (exit_seeds (λ row. row.left) s) || unserved_exit o exits.through (exit_seeds (λ row. row.through) s))
    || unserved_exit o exits.right (exit_seeds (λ row. row.right) s))
    || unserved_exit o exits.access (exit_seeds (λ row. row.access) s)

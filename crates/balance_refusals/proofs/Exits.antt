-- The exits are asked as the entries are, each by its seeds by entry.
use Rattle.std.proofs.Common.{◌≡◌, refl}
use Rattle.movements.specs.PerMovement.{Counts, Seeds, transposed}
use Rattle.balance_refusals.specs.Refusals.{unserved_entry, unserved_exit, any_unserved_entry, any_unserved_exit}

pub as_entries : (o exits : Counts) (s : Seeds) → any_unserved_entry exits o (transposed s) ≡ any_unserved_exit o exits s
unfolding any_unserved_entry any_unserved_exit unserved_entry unserved_exit
as_entries o exits s = refl

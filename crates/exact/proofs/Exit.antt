-- Laws of specs/Exit.antt.
use Rattle.std.specs.Prelude.{ℕ, ◌+◌, ◌*◌, ◌≡◌}
use Rattle.std.proofs.Common.{arith}
use Rattle.exact.specs.Fraction.{Fraction, WithinParts, within_plus, within_whole}
use Rattle.exact.specs.Exact.{exact_exit}

-- three pairs and access
pub exit_within : {u d x y z : ℕ} {left through right : Fraction} (access : ℕ) → WithinParts u d x left → WithinParts u d y through
    → WithinParts u d z right → WithinParts u (3 * d) (x + y + z + access) (exact_exit left through right access)
unfolding exact_exit
exit_within {d} access l t r =
    let e : d + d + d ≡ 3 * d = omega arith in
    rw e at (within_whole access (within_plus (within_plus l t) r))

-- Numbers compared with bytes.
use Rattle.std.proofs.Common.{ℕ, ◌+◌, ◌*◌, ◌||◌, not, ◌≡◌, refl, ap, ◌∙◌, List, [], ◌∷◌, eqb, arith}
use Rattle.std.specs.List.{enumerate_from, list_any}
use Rattle.octets.specs.Octets.{word4}
use Rattle.vectors.specs.Vectors.{words_differ}

-- the numbers with their places, each compared with the four bytes that stand for it
pub compared : (l : List ℕ) (at n : ℕ) (run : List ℕ) →
    list_any (λ p. not (eqb (word4 l (at + 4 * p.0)) p.1)) (enumerate_from n run) ≡ words_differ l (at + 4 * n) run
unfolding words_differ
compared l at n [] = refl
compared l at n (x ∷ xs) =
    let next : at + 4 * (n + 1) ≡ at + 4 * n + 4 = omega arith in
    ap (λ b. not (eqb (word4 l (at + 4 * n)) x) || b) (compared l at (n + 1) xs ∙ rw next)

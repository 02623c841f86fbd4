-- A pair without a share adds nothing.
use Rattle.std.proofs.Common.{ℕ, zero, suc, ◌+◌, ◌-◌, arith, ◌≡◌, refl, ap, sym, ◌∙◌, List, length, set, get_or, replicate}
use Rattle.std.proofs.Math.Seq.{set-get_or}
use Rattle.signal.specs.Turn.{turn}
use Rattle.signal.specs.Landing.{added}
use Rattle.pair_parts.specs.PairParts.{pair_arrivals}
use Rattle.pair_parts.proofs.Laws.{pair_without}

-- zeros add nothing
zeros_added : (c t i n : ℕ) (run : List ℕ) → run ≡ added c t i (replicate n 0) run
unfolding added
zeros_added c t i zero run = refl
zeros_added c t i (suc n) run =
    let at = turn c (i + t) - 1 in
    let z : get_or run at 0 + 0 ≡ get_or run at 0 = omega arith in
    let e : set run at (get_or run at 0 + 0) ≡ run = ap (set run at) z ∙ set-get_or run at 0 in
    zeros_added c t (suc i) n run ∙ ap (added c t (suc i) (replicate n 0)) (sym e)

pub none_added : (arrived : List ℕ) (v w t : ℕ) (run : List ℕ) → v ≡ 0 → run ≡ added (length run) t 1 (pair_arrivals v w arrived) run
none_added arrived v w t run e = rw (e, pair_without w arrived) (zeros_added (length run) t 1 (length arrived) run)

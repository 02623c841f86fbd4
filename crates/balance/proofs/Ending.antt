-- Laws of specs/Ending.antt: What the settling means: the rounds one after another, no more than the limit, and the three ways in which they end.
use Prim.Native.Nat.{ℕ, zero, suc, ◌+◌, ◌≤◌, ◌<◌}
use Rattle.std.specs.Prelude.{Bool, ◌≡◌, Float}
use Rattle.std.proofs.Math.Bool.{true, false}
use Rattle.std.proofs.Math.Path.{refl}
use Rattle.std.proofs.Common.{subst, not-suc-le-zero, below_more}
use Rattle.std.proofs.Math.Numerals.{add-one}
use native.Mathlib.Omega.{arith}
use Rattle.std.specs.Float.Ieee.{lt}
use Rattle.movements.specs.PerMovement.{Counts, Seeds}
use Rattle.balance_flows.specs.Flows.{Flows, FlowTable}
use Rattle.balance_round.specs.Round.{stops}
use Rattle.balance.specs.declared.Balance.{Balance}
use Rattle.balance.specs.Settling.{round_limit, threshold, by_cells, closed}
use Rattle.balance.specs.Settling.{Running, Ended, after, next, rounds, report, settle, balanced}
use Rattle.balance.specs.Ending.{nth, GoesOn, Open, Ending, stopped, settles, spent}

-- finite or not, the cells do not change the rounds
cells_rounds : (b : Bool) (c : FlowTable) (sum : Float) (n : ℕ) → (by_cells b c sum n).rounds ≡ n
cells_rounds true c sum n = refl
cells_rounds false c sum n = refl

module _ (o d : Flows) (p : FlowTable) where
  pub ended : (k : ℕ) (b : Balance) → rounds k o d p (Ended b) ≡ Ended b
  unfolding rounds next
  ended zero b = refl
  ended (suc k) b = ended k b

  module _ (limit : ℕ) where
    -- what k rounds more come to after n
    abbrev Rest : ℕ → ℕ → Type 0
    Rest k n = Open o d p n → Ending o d p limit (report (rounds k o d p (Running n (nth o d p n))))

    one : (k n : ℕ) (t u : Bool) → n < limit → Open o d p n → stops o d (nth o d p (suc n)) ≡ t → lt (nth o d p (suc n)).change threshold ≡ u → Rest k (suc n)
        → Ending o d p limit (report (rounds k o d p (after t u p n (nth o d p n) (nth o d p (suc n)))))
    unfolding after report
    one k n true u h op e f rest = rw (ended k) (stopped n h op e)
    one k n false true h op e f rest = rw (add-one, ended k) (settles n h op e f)
    one k n false false h op e f rest = rw add-one (rest (rw add-one at (below_more (GoesOn o d p) n op (e, f))))

    more : (k n : ℕ) → n + k ≡ limit → Rest k n
    unfolding rounds next report nth
    more zero n e op = let q : n ≡ limit = omega arith in rw q (spent (subst (Open o d p) q op))
    more (suc k) n e op = one k n _ _ (omega arith) op refl refl (more k (suc n) (omega arith))

    pub settle_ends : Ending o d p limit (settle limit o d p)
    unfolding settle nth
    settle_ends = more limit 0 (omega arith) (λ k h. absurd (not-suc-le-zero h))

    -- none of the three ways has more rounds than the limit
    ending_rounds : {b : Balance} → Ending o d p limit b → b.rounds ≤ limit
    unfolding closed
    ending_rounds (stopped n h op e) = omega arith
    ending_rounds (settles n h op e f) = rw cells_rounds h
    ending_rounds (spent op) = omega arith

    pub settle_rounds : (settle limit o d p).rounds ≤ limit
    settle_rounds = ending_rounds settle_ends

pub balanced_rounds : (o exits : Counts) (seeds : Seeds) → (balanced o exits seeds).rounds ≤ round_limit
unfolding balanced
balanced_rounds o exits seeds = settle_rounds _ _ _ round_limit

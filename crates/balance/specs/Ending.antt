-- What the settling means: the rounds one after another, no more than the limit, and the three ways in which they end.
-- Assumes nothing.
use Prim.Native.Nat.{ℕ, zero, suc, ◌<◌}
use Rattle.std.specs.Prelude.{◌≡◌}
use Rattle.std.proofs.Math.Bool.{true, false}
use Rattle.std.specs.Float.Ieee.{lt}
use Rattle.balance_flows.specs.Flows.{Flows, FlowTable}
use Rattle.balance_round.specs.declared.Round.{Round}
use Rattle.balance_round.specs.Round.{round_of, stops}
use Rattle.balance.specs.declared.Balance.{Balance}
use Rattle.balance.specs.Settling.{threshold, cells_of, unsettled, closed}
use Rattle.balance.specs.Settling.{start}

-- round k; 0 is what stands before the first. Each starts from the adjusted origins of the one before.
unfoldable pub nth : Flows → Flows → FlowTable → ℕ → Round
nth o d p zero = start o
nth o d p (suc k) = round_of o d p (nth o d p k).origins

-- round k + 1 reaches its sum and does not settle
abbrev pub GoesOn : Flows → Flows → FlowTable → ℕ → Type 0
GoesOn o d p k = (stops o d (nth o d p (suc k)) ≡ false) × (lt (nth o d p (suc k)).change threshold ≡ false)

-- the first n rounds do
abbrev pub Open : Flows → Flows → FlowTable → ℕ → Type 0
Open o d p n = (k : ℕ) → k < n → GoesOn o d p k

-- With at most `limit` rounds: the round after n stops early, or it settles, or all rounds go on.
pub data Ending (o d : Flows) (p : FlowTable) (limit : ℕ) : Balance → Type 0 where
  stopped : (n : ℕ) → n < limit → Open o d p n → stops o d (nth o d p (suc n)) ≡ true → Ending o d p limit (unsettled (nth o d p n).change n)
  settles : (n : ℕ) → n < limit → Open o d p n → stops o d (nth o d p (suc n)) ≡ false → lt (nth o d p (suc n)).change threshold ≡ true
      → Ending o d p limit (closed (cells_of (nth o d p (suc n)).origins (nth o d p (suc n)).ratios p) (nth o d p (suc n)).change (suc n))
  spent : Open o d p limit → Ending o d p limit (unsettled (nth o d p limit).change limit)

-- The loop over the rounds: what it keeps, and what it comes to by what the next round x does.
-- Assumes nothing.
use Rattle.std.proofs.Common.{ℕ, suc, ◌+◌, ◌-◌, ◌<◌, ◌≤◌, ◌≡◌, sym, ◌∙◌, Bool, true, false, arith}
use Rattle.std.specs.Float.Ieee.{lt}
use Rattle.balance_flows.specs.Flows.{Flows, FlowTable}
use Rattle.balance_round.specs.declared.Round.{Round}
use Rattle.balance_round.specs.Round.{round_of, stops}
use Rattle.balance.specs.Settling.{threshold, cells_of, unsettled, closed, start, Running, after, next, rounds, report, settle}
use Rattle.balance.proofs.Ending.{ended}

-- n rounds are over, the last of them `before`, and none ended the settling: it is that of the rounds left
pub record RoundsLeft (limit : ℕ) (o d : Flows) (p : FlowTable) (before : Round) (n : ℕ) : Type 0 where
  pub within : n ≤ limit
  pub same : settle limit o d p ≡ report (rounds (limit - n) o d p (Running n before))

pub rounds_start : {limit : ℕ} {o d : Flows} {p : FlowTable} {before : Round} → before ≡ start o → RoundsLeft limit o d p before 0
unfolding settle
rounds_start {limit} e = let z : limit - 0 ≡ limit = omega arith in record { within = omega arith; same = rw (e, z) }

module _ {limit : ℕ} {o d : Flows} {p : FlowTable} {before : Round} {n : ℕ} (r : RoundsLeft limit o d p before n) where
  pub spent : limit ≤ n → unsettled before.change limit ≡ settle limit o d p
  unfolding rounds report
  spent h = let e : limit - n ≡ 0 = omega arith in let last : n ≡ limit = omega (arith, r.within) in sym (r.same ∙ rw (e, last))

  module _ (more : n < limit) {x : Round} (is : x ≡ round_of o d p before.origins) {s : Bool} (test : s ≡ stops o d x) where
    one_more : settle limit o d p ≡ report (rounds (limit - (n + 1)) o d p (after s (lt x.change threshold) p n before x))
    unfolding rounds next
    one_more = let e : limit - n ≡ suc (limit - (n + 1)) = omega arith in r.same ∙ rw (test, e, is)

    pub stopped : s ≡ true → unsettled before.change n ≡ settle limit o d p
    unfolding after report
    stopped f = sym (one_more ∙ rw (f, ended))

    pub closes : s ≡ false → lt x.change threshold ≡ true → closed (cells_of x.origins x.ratios p) x.change (n + 1) ≡ settle limit o d p
    unfolding after report
    closes f g = sym (one_more ∙ rw (f, g, ended))

    pub goes : s ≡ false → lt x.change threshold ≡ false → RoundsLeft limit o d p x (n + 1)
    unfolding after
    goes f g = record { within = omega arith; same = one_more ∙ rw (f, g) }

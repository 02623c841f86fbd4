-- Laws of specs/Repeating.antt: The repeating flow of an entry, in the terms of dispersion, and how near the reported cycle is to it.
use Prim.Native.Nat.{ℕ, zero, suc, ◌+◌, ◌-◌, ◌*◌, ◌^◌, ◌≤◌, ◌<◌}
use Rattle.std.proofs.Math.Nat.{pow-zero, pow-le-pow_left, mul-one}
use Rattle.std.proofs.Common.{le-add_left}
use native.Mathlib.Omega.{arith}
use Rattle.std.specs.Prelude.{◌≡◌, List}
use Rattle.std.proofs.Math.ListN.{length, get_or, length-append}
use Rattle.limits.specs.Limits.{most_running}
use Rattle.dispersion.specs.Dispersion.{smoothing, divisor_of, repeated}
use Rattle.dispersion.specs.Arrivals.{divisor_split}
use Rattle.dispersion.specs.Cycles.{repeated_length}
use Rattle.exact.specs.Fraction.{Fraction, Above, within_above}
use Rattle.exact.specs.Exact.{exact_numerator, exact_flow}
use Rattle.exact_repeating.specs.Repeating.{cycle_weight, repeating_flow, Same, Repeats}
use Rattle.exact_repeating.specs.Powers.{pow_add, outgrows}
use Rattle.exact_repeating.proofs.Laws.{weight_split, repeating_den, repeating_repeats, repeats_only}
use Rattle.exact_repeating.specs.FromEmpty.{over, over_append, lack_turn, lack_more, lack_above}
use Rattle.exact_repeating.proofs.FromEmpty.{cycle_le}
use Rattle.exact_dispersion.specs.ExactDispersion.{exact_flow_of, exact_reported, Near}
use Rattle.exact_dispersion.proofs.Laws.{near_empty}
use Rattle.exact_dispersion.specs.Repeating.{repeating, weight_of}

pub repeating_num_is : (running : ℕ) (q : List ℕ) (i : ℕ) → (repeating running q i).num
    ≡ (exact_flow_of running q i).num * weight_of (divisor_of running) (length q)
    + (divisor_of running - smoothing) ^ i * (exact_flow_of running q (length q)).num
unfolding repeating repeating_flow cycle_weight exact_flow
repeating_num_is running q i = rw (divisor_split running)

pub repeating_den_is : (running : ℕ) (q : List ℕ) (i : ℕ) → (repeating running q i).den ≡ divisor_of running ^ i * weight_of (divisor_of running) (length q)
unfolding repeating repeating_flow cycle_weight
repeating_den_is running q i = rw (divisor_split running)

-- it satisfies the recurrence in every step and around the cycle, and no other flow does
pub repeating_flow_lem : (running : ℕ) (q : List ℕ) → 0 < length q
    → Repeats smoothing (divisor_of running - smoothing) (length q) (λ j. get_or q j 0) (repeating running q)
unfolding repeating
repeating_flow_lem running q h = repeating_repeats smoothing (divisor_of running - smoothing) (length q) (λ j. get_or q j 0) (omega arith) h

pub repeating_only : (running : ℕ) (q : List ℕ) {flow : ℕ → Fraction} → Repeats smoothing (divisor_of running - smoothing) (length q) (λ j. get_or q j 0) flow
    → (i : ℕ) → i ≤ length q → Same (flow i) (repeating running q i)
unfolding repeating
repeating_only running q f i h = repeats_only f i h

-- ---- X over j cycles, and over j cycles and k steps, by X over one

module _ (n m : ℕ) (q : List ℕ) where
  abbrev steps : ℕ → ℕ
  steps j = length (repeated j q)

  cycles_over : (j : ℕ) → over n m (repeated j q) (steps j) * cycle_weight n m (length q) + over n m q (length q) * m ^ steps j
      ≡ over n m q (length q) * (n + m) ^ steps j
  unfolding repeated exact_numerator
  cycles_over zero = rw (pow-zero m, pow-zero (n + m)) (omega arith)
  cycles_over (suc j) =
      rw (
        length-append,
        over_append n m (repeated j q) q (length q),
        pow_add m (steps j) (length q),
        pow_add (n + m) (steps j) (length q),
        ← (weight_split n m (length q)),
      )
      (lack_turn (cycle_weight n m (length q)) (m ^ length q) (over n m q (length q)) ((n + m) ^ steps j) (m ^ steps j)
      (over n m (repeated j q) (steps j)) (cycles_over j))

  cycles_more : (j k : ℕ) → over n m (repeated (suc j) q) (steps j + k) * cycle_weight n m (length q) + m ^ k * over n m q (length q) * m ^ steps j
      ≡ (over n m q k * cycle_weight n m (length q) + m ^ k * over n m q (length q)) * (n + m) ^ steps j
  unfolding repeated
  cycles_more j k =
      rw (over_append n m (repeated j q) q k)
      (lack_more (cycle_weight n m (length q)) (over n m q (length q)) ((n + m) ^ steps j) (m ^ steps j) (over n m (repeated j q) (steps j)) (m ^ k)
      (over n m q k) (cycles_over j))

  -- after j cycles the repeating flow is above that from empty by no more than 1 / u, where no discharge is above b
  cycles_above : (u b j k : ℕ) → ((i : ℕ) → get_or q i 0 ≤ b) → u * b * m ^ steps j ≤ (n + m) ^ steps j
      → Above u (exact_flow n m (λ i. get_or (repeated (suc j) q) i 0) (steps j + k)) (repeating_flow n m (length q) (λ i. get_or q i 0) k)
  unfolding exact_flow repeating_flow
  cycles_above u b j k most enough =
      rw (pow_add (n + m) (steps j) k)
      (lack_above u (m ^ k) ((n + m) ^ k) (m ^ steps j) ((n + m) ^ steps j) (cycle_weight n m (length q)) (over n m q (length q)) b _ _
      (pow-le-pow_left (le-add_left m n) k) (cycle_le n m (length q) b (λ i. get_or q i 0) most) enough (cycles_more j k))

-- ---- the reported cycle. D - N is at most 42·N, so that every 42 steps at least halve what the empty start lacks

module _ (u b h k : ℕ) (running : ℕ) (q : List ℕ) (limit : running ≤ most_running) (most : (j : ℕ) → get_or q j 0 ≤ b) (small : u * b ≤ 2 ^ h)
    (enough : 42 * h ≤ k * length q) where
  apart : u * b * (divisor_of running - smoothing) ^ length (repeated k q) ≤ (smoothing + (divisor_of running - smoothing)) ^ length (repeated k q)
  unfolding divisor_of
  apart =
      outgrows smoothing (divisor_of running - smoothing) 41 h (length (repeated k q)) (u * b) (omega arith) small (rw (repeated_length k q) enough)

  -- what is left of the distance after k cycles: at most 1 / u
  pub repeating_above : (i : ℕ) → Above u (exact_reported (suc k) running q i) (repeating running q i)
  unfolding repeating exact_reported
  repeating_above i =
      let before : suc k - 1 ≡ k = omega arith in
      rw (before, ← (repeated_length k q)) (cycles_above smoothing (divisor_of running - smoothing) q u b k i most apart)

  -- so an arrival, within one of the flow from empty, is within 1 + 1/u of the repeating flow
  pub near_repeating : 0 < u → Near u (u + 1) (suc k) repeating running q
  unfolding repeating
  near_repeating unit =
      record {
        arrival = λ i hi.
            let den = repeating_den smoothing (divisor_of running - smoothing) (length q) (λ j. get_or q j 0) (suc i) (omega arith) (omega arith) in
            rw mul-one at (within_above unit den ((near_empty running q k).arrival i hi) (repeating_above (suc i)));
      }

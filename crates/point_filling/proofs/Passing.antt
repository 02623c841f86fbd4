-- One entry past a point, over plain variables; and a point's run as a function of its steps while the entries are added.
use Rattle.std.proofs.Common.{ℕ, zero, suc, ◌+◌, ◌-◌, ◌*◌, ◌≤◌, ◌<◌, add-one, arith, ◌≡◌, sym, ◌∙◌, List, ◌++◌, append_assoc}
use Rattle.std.proofs.Common.{length, take, drop, get_or, replicate, length-append, length-drop, take_at, drop_at, drop-drop, length-take-le}
use Rattle.std.proofs.lemmas.List.{drop-take, take-take}
use Rattle.std.proofs.Math.Nat.{sub-zero}
use Rattle.limits.specs.Limits.{most_running}
use Rattle.lists.specs.Lists.{tab, tab_length, tab_each_le, tab_constant}
use Rattle.runs.specs.Runs.{run_at}
use Rattle.signal.specs.Turn.{earlier}
use Rattle.signal.specs.Landing.{added}
use Rattle.signal.proofs.Landing.{landing_is, added_tab}
use Rattle.segment.specs.declared.Entry.{Entry}
use Rattle.segment.specs.declared.Segment.{Segment}
use Rattle.ranges.specs.Ranges.{Ranges, EntryRanges}
use Rattle.metering.specs.Metering.{access_discharge}
use Rattle.entries.specs.Entries.{entry_profile, EntryRuns}
use Rattle.entries.proofs.Laws.{entry_length, entry_le}
use Rattle.dispersion.specs.Dispersion.{arrival_time_of, reported, held}
use Rattle.dispersion.specs.Arrivals.{arrival_time_small}
use Rattle.dispersion.specs.Cycles.{reported_length, reported_le}
use Rattle.arrivals.specs.Arrivals.{arrival_limit, run_limit, LandsFit}
use Rattle.propagation.specs.Propagation.{cycles_before, cycles}
use Rattle.points.specs.declared.Point.{Point}
use Rattle.point_flows.specs.PointFlows.{point_arrivals, passes_in, point_flow, point_run}
use Rattle.point_filling.specs.Steps.{PassFits, Discharged}

-- ---- one entry

-- in front of the array after its cycles were worked there: x is what the array was lent with, rest what stands behind
module _ (running : ℕ) (q x : List ℕ) {ys : List ℕ} (made : ys ≡ held running q cycles x) (rest : List ℕ) where
  long : length (reported running q cycles) ≡ length q
  long = reported_length running q cycles_before

  part_is : take (length q - 0) (ys ++ rest) ≡ reported running q cycles
  part_is = rw (made, sub-zero, append_assoc) (take_at (reported running q cycles) (drop (length q) x ++ rest) (length q) long)

  pub pass_lands : {t : ℕ} → t ≡ arrival_time_of running → {run : List ℕ} → PassFits running q run → LandsFit t (take (length q - 0) (ys ++ rest)) run
  pass_lands time h =
      rw (part_is, time)
      (record {
        long = long ∙ h.long;
        some = h.some;
        cycle = h.cycle;
        time = arrival_time_small running h.time;
        arrivals = reported_le running arrival_limit q cycles h.small;
        small = h.sums;
      })

-- ---- a point's run

-- after some entries: a function of its steps, and a bound of its numbers
pub record Passing (s : Segment) (b : ℕ) (r : ℕ → ℕ) (run : List ℕ) : Type 0 where
  pub is : run ≡ tab r 1 s.cycle
  pub small : (step : ℕ) → 0 < step → step ≤ s.cycle → r step ≤ b

-- access begins it
pub passing_start : (s : Segment) {units n : ℕ} {run : List ℕ} → units ≡ access_discharge s → n ≡ s.cycle → run ≡ replicate n units →
    Passing s (access_discharge s) (λ step. access_discharge s) run
passing_start s eu en e =
    record { is = e ∙ rw (eu, en) (tab_constant (access_discharge s) 1 s.cycle); small = λ step low high. omega arith }

module _ {s : Segment} {b : ℕ} {r : ℕ → ℕ} {run : List ℕ} (h : Passing s b r run) where
  passing_length : length run ≡ s.cycle
  passing_length = rw h.is (tab_length r 1 s.cycle)

  passing_le : (k : ℕ) → get_or run k 0 ≤ b
  passing_le = rw h.is (tab_each_le b r 1 s.cycle (λ step first last. h.small step first (omega arith)))

  -- what the next entry asks
  pub passing_fits : b ≤ run_limit → Ranges s → {e : Entry} → EntryRanges s.cycle e → (running : ℕ) → running ≤ most_running →
      {q : List ℕ} → q ≡ entry_profile s.cycle e → PassFits running q run
  passing_fits hb ranges {e} er running ht eq =
      let l = passing_length in
      rw eq
      (record {
        time = ht;
        some = omega (arith, ranges.cycle);
        cycle = omega (arith, ranges.cycle);
        long = entry_length s.cycle e ∙ sym l;
        small = entry_le s.cycle e er;
        sums = λ k. omega (arith, passing_le k);
      })

  -- and what it leaves
  pub passing_entry : Ranges s → {e : Entry} → EntryRanges s.cycle e → (p : Point) {q : List ℕ} → q ≡ entry_profile s.cycle e → {run' : List ℕ} →
      run' ≡ added (length run) (arrival_time_of p.running) 1 (reported p.running q cycles) run →
      Passing s (b + arrival_limit) (λ step. r step + passes_in s p e step) run'
  unfolding passes_in point_arrivals
  passing_entry ranges {e} er p eq is =
      let c = s.cycle in
      let t = arrival_time_of p.running in
      let q = entry_profile c e in
      let arrivals = reported p.running q cycles in
      record {
        is = is ∙ rw (eq, passing_length, h.is) (added_tab c t r arrivals (omega (arith, ranges.cycle)));
        small = λ step low high.
            rw (landing_is c t step arrivals low high (omega (arith, reported_length p.running q cycles_before, entry_length c e)))
            (omega (arith, h.small step low high, reported_le p.running arrival_limit q cycles (entry_le c e er) (earlier c t step - 1)));
      }

-- ---- the three entries in turn

-- the three discharges and nothing behind them
pub record Three (s : Segment) (discharges : List ℕ) : Type 0 where
  pub entries : EntryRuns s discharges
  pub long : length discharges ≡ 3 * s.cycle

-- so the front of three runs is
front_run : (c a m : ℕ) (l : List ℕ) → c ≤ m → take c (drop a (take (a + m) l)) ≡ take c (drop a l)
front_run c a m l h = rw drop-take (take-take c m (drop a l) h)

pub three_front : {s : Segment} {discharges : List ℕ} → Discharged s discharges → Three s (take (3 * s.cycle) discharges)
three_front {s} {discharges} d =
    let c = s.cycle in
    let after_none : 3 * c ≡ 0 * c + 3 * c = omega arith in
    let after_one : 3 * c ≡ 1 * c + 2 * c = omega arith in
    let after_two : 3 * c ≡ 2 * c + c = omega arith in
    record {
      entries = record {
        left = rw after_none (front_run c (0 * c) (3 * c) discharges (omega arith)) ∙ d.entries.left;
        through = rw after_one (front_run c (1 * c) (2 * c) discharges (omega arith)) ∙ d.entries.through;
        right = rw after_two (front_run c (2 * c) c discharges (omega arith)) ∙ d.entries.right;
      };
      long = length-take-le (3 * c) discharges d.long;
    }

abbrev pub entry_at : Segment → ℕ → Entry
entry_at s zero = s.left
entry_at s (suc zero) = s.through
entry_at s (suc (suc k)) = s.right

entry_ranges : {s : Segment} → Ranges s → (k : ℕ) → EntryRanges s.cycle (entry_at s k)
entry_ranges ranges zero = ranges.left
entry_ranges ranges (suc zero) = ranges.through
entry_ranges ranges (suc (suc k)) = ranges.right

entry_run : {s : Segment} {discharges : List ℕ} → EntryRuns s discharges → (k : ℕ) → k < 3 →
    run_at s.cycle k discharges ≡ entry_profile s.cycle (entry_at s k)
entry_run h zero more = h.left
entry_run h (suc zero) more = h.through
entry_run h (suc (suc zero)) more = h.right
entry_run h (suc (suc (suc k))) more = absurd (omega arith)

-- k of three runs of c numbers are gone: where c numbers are left there is one more, where fewer there is none
runs_more : (k c : ℕ) → 0 < c → c ≤ 3 * c - k * c → k < 3
runs_more zero c pos h = omega arith
runs_more (suc zero) c pos h = omega arith
runs_more (suc (suc zero)) c pos h = omega arith
runs_more (suc (suc (suc k))) c pos h = absurd (omega arith)

runs_done : (k c : ℕ) → k ≤ 3 → 3 * c - k * c < c → k ≡ 3
runs_done zero c few h = absurd (omega arith)
runs_done (suc zero) c few h = absurd (omega arith)
runs_done (suc (suc zero)) c few h = absurd (omega arith)
runs_done (suc (suc (suc k))) c few h = omega arith

-- access and the first k entries
abbrev pub passed : Segment → Point → ℕ → ℕ → ℕ
passed s p zero step = access_discharge s
passed s p (suc k) step = passed s p k step + passes_in s p (entry_at s k) step

-- k entries have passed; the discharges of the others are left, in runs of so many
pub record Passed (s : Segment) (p : Point) (discharges : List ℕ) (size : ℕ) (rest run : List ℕ) (k : ℕ) : Type 0 where
  pub few : k ≤ 3
  pub cycle : size ≡ s.cycle
  pub left : rest ≡ drop (k * s.cycle) discharges
  pub passing : Passing s (access_discharge s + k * arrival_limit) (passed s p k) run

module _ {s : Segment} {p : Point} {discharges : List ℕ} (d : Three s discharges) where
  pub passed_start : {size units n : ℕ} {rest run : List ℕ} → size ≡ s.cycle → rest ≡ discharges → units ≡ access_discharge s → n ≡ s.cycle →
      run ≡ replicate n units → Passed s p discharges size rest run 0
  passed_start es er eu en e =
      let z : 0 * s.cycle ≡ 0 = omega arith in
      let b : access_discharge s + 0 * arrival_limit ≡ access_discharge s = omega arith in
      record { few = omega arith; cycle = es; left = rw (z, er); passing = rw b (passing_start s eu en e) }

  module _ {size k : ℕ} {rest run : List ℕ} (r : Passed s p discharges size rest run k) where
    left_length : length rest ≡ 3 * s.cycle - k * s.cycle
    left_length = rw (r.left, length-drop, d.long)

    module _ (ranges : Ranges s) (next others : List ℕ) (cut : rest ≡ next ++ others) (long : length next ≡ size) where
      more : k < 3
      more =
          let whole : length rest ≡ length next + length others = rw (cut, length-append) in
          runs_more k s.cycle (omega (arith, ranges.cycle)) (omega (arith, whole, long, r.cycle, left_length))

      next_is : next ≡ entry_profile s.cycle (entry_at s k)
      next_is = sym (rw (← cut) at (take_at next others s.cycle (long ∙ r.cycle))) ∙ rw r.left (entry_run d.entries k more)

      others_is : others ≡ drop ((k + 1) * s.cycle) discharges
      others_is =
          let m : (k + 1) * s.cycle ≡ k * s.cycle + s.cycle = omega arith in
          sym (rw (← cut) at (drop_at next others s.cycle (long ∙ r.cycle))) ∙ rw (r.left, m) (drop-drop s.cycle (k * s.cycle) discharges)

      pub passed_fits : p.running ≤ most_running → PassFits p.running next run
      passed_fits time = passing_fits r.passing (omega (arith, more, ranges.access)) ranges (entry_ranges ranges k) _ time next_is

      pub passed_turn : {size' : ℕ} → size' ≡ size → {run' : List ℕ} →
          run' ≡ added (length run) (arrival_time_of p.running) 1 (reported p.running next cycles) run →
          Passed s p discharges size' others run' (k + 1)
      passed_turn es is =
          let b : access_discharge s + (k + 1) * arrival_limit ≡ access_discharge s + k * arrival_limit + arrival_limit = omega arith in
          record {
            few = omega (arith, more);
            cycle = es ∙ r.cycle;
            left = others_is;
            passing = rw (b, add-one) (passing_entry r.passing ranges (entry_ranges ranges k) p next_is is);
          }

    -- with none left all three have passed
    pub passed_done : length rest < size → run ≡ point_run s p
    unfolding point_run point_flow
    passed_done none =
        let all : k ≡ 3 = runs_done k s.cycle r.few (omega (arith, none, r.cycle, left_length)) in
        rw all at r.passing.is

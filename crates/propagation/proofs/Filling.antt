-- The profiles as the entries are worked: the output's runs as a function of exit and step.
use Prim.Native.Nat.{ℕ, ◌+◌, ◌-◌, ◌*◌, ◌≤◌, ◌<◌}
use native.Mathlib.Omega.{arith}
use mathlib.Core.Path.{◌≡◌, refl, ap, ◌∙◌}
use mathlib.Core.List.{List, [], ◌++◌}
use lib.ListN.{length, drop, get_or}
use lib.Seq.{drop_at}
use lib.ListN.{length-append, length-drop}
use Rattle.limits.specs.Limits.{entry_limit}
use Rattle.movements.specs.Movements.{flow_units}
use Rattle.segment.specs.declared.Entry.{Entry}
use Rattle.segment.specs.declared.Segment.{Segment}
use Rattle.ranges.specs.Ranges.{Ranges, EntryRanges}
use Rattle.metering.specs.Metering.{discharge_volume}
use Rattle.entries.specs.Entries.{entry_profile}
use Rattle.entries.proofs.Laws.{entry_length}
use Rattle.dispersion.specs.Dispersion.{arrival_time_of, reported}
use Rattle.dispersion.specs.Cycles.{reported_length}
use Rattle.arrivals.specs.Arrivals.{arrival_limit, run_limit, begun, four_runs}
use Rattle.arrivals.proofs.Laws.{runs_le}
use Rattle.arrivals.proofs.Laws.{runs_length, begun_runs, added_runs}
use Rattle.propagation.specs.Propagation.{Profiles, profiles, cycles_before, cycles, pair_flow, entry_arrivals, pair_of, lands_in, flow_at, filled_of}
use Rattle.propagation.specs.Steps.{spread_step, FillEntryFits, entry_step, Room, RowsFit, FillFits, room_kept}
use Rattle.propagation.proofs.Largest.{lands_in_le}

-- the flow units that the access entry can bring to a step
abbrev pub access_limit : ℕ
access_limit = flow_units entry_limit

-- after some entries: the runs, a bound of their numbers, and the work profiles beyond the cycle
pub record Filling (s : Segment) (p₀ p : Profiles) (b : ℕ) (r : ℕ → ℕ → ℕ) : Type 0 where
  pub room : Room s.cycle p
  pub runs : p.output ≡ four_runs s.cycle r (drop (4 * s.cycle) p₀.output)
  pub small : (j k : ℕ) → j < 4 → 0 < k → k ≤ s.cycle → r j k ≤ b
  pub first : drop s.cycle p.first ≡ drop s.cycle p₀.first
  pub second : drop s.cycle p.second ≡ drop s.cycle p₀.second

pub fill_begin : {s : Segment} {rows : List (List ℕ)} {o f g : List ℕ} → Ranges s → FillFits s rows (profiles o f g) → {o' : List ℕ} →
    o' ≡ begun s.cycle (get_or rows 3 []) o → length o' ≡ length o → Filling s (profiles o f g) (profiles o' f g) access_limit (λ j k. pair_flow rows 3 j)
fill_begin {s} {rows} {o} ranges h e n =
    record {
      room = record { output = omega (arith, h.room.output, n); first = h.room.first; second = h.room.second };
      runs = e ∙ begun_runs s.cycle (get_or rows 3 []) o (h.shares.four 3 (omega arith));
      small = λ j k _ _ _. omega (arith, h.shares.access j, ranges.access);
      first = refl;
      second = refl;
    }

module _ {s : Segment} {p₀ p : Profiles} {b : ℕ} {r : ℕ → ℕ → ℕ} (h : Filling s p₀ p b r) (ranges : Ranges s) where
  pub fill_asks : b ≤ run_limit → {e : Entry} {v : ℕ} (row : List ℕ) → EntryRanges s.cycle e → v ≡ discharge_volume s.cycle e →
      ((j : ℕ) → get_or row j 0 ≤ discharge_volume s.cycle e) → FillEntryFits s.running s.cycle e v row p
  fill_asks hb row er ev shares =
      record {
        time = ranges.running.1;
        cycle = ranges.cycle;
        entry = er;
        volume = ev;
        shares = shares;
        room = h.room;
        small = λ k hk. rw h.runs
            (omega (arith, runs_le s.cycle r (drop (4 * s.cycle) p₀.output) b h.small k hk));
      }

  -- one entry more: to each number what lands there is added
  pub then_entry : {e : Entry} (row : List ℕ) → EntryRanges s.cycle e → length row ≡ 4 →
      ((j : ℕ) → get_or row j 0 ≤ discharge_volume s.cycle e) → {p' : Profiles} → p' ≡ entry_step s.running s.cycle e row p →
      Filling s p₀ p' (b + arrival_limit) (λ j k. r j k + lands_in s e (get_or row j 0) k)
  unfolding entry_step spread_step lands_in pair_of entry_arrivals
  then_entry {e} row er four shares {p'} ep =
      let c = s.cycle in
      let q = entry_profile c e in
      let rest = drop (4 * c) p₀.output in
      let l : length q ≡ c = entry_length c e in
      let before : length (reported s.running q cycles_before) ≡ c = reported_length s.running q (cycles_before - 1) ∙ l in
      let last : length (reported s.running q cycles) ≡ c = reported_length s.running q cycles_before ∙ l in
      let runs : p'.output ≡ four_runs c (λ j k. r j k + lands_in s e (get_or row j 0) k) rest =
      ap (λ (x : Profiles). x.output) ep
      ∙ rw (h.runs, l) (added_runs c (arrival_time_of s.running) (discharge_volume c e) (reported s.running q cycles) row r
      rest (omega (arith, ranges.cycle)) four) in
      let first : p'.first ≡ reported s.running q cycles ++ drop c p.first = ap (λ (x : Profiles). x.first) ep ∙ rw l in
      let second : p'.second ≡ reported s.running q cycles_before ++ drop c p.second = ap (λ (x : Profiles). x.second) ep ∙ rw l in
      record {
        room = record {
          output = rw runs (omega (arith, runs_length c (λ j k. r j k + lands_in s e (get_or row j 0) k) rest));
          first = rw first (simp length-append (omega (arith, last)));
          second = rw second (simp length-append (omega (arith, before)));
        };
        runs = runs;
        small = λ j k hj pos fits. omega (arith, h.small j k hj pos fits, lands_in_le s e (get_or row j 0) k er (shares j) pos fits);
        first = ap (drop c) first ∙ drop_at (reported s.running q cycles) (drop c p.first) c last ∙ h.first;
        second = ap (drop c) second ∙ drop_at (reported s.running q cycles_before) (drop c p.second) c before ∙ h.second;
      }

-- after the third: the work profiles hold the right entry's cycles
pub then_last : {s : Segment} {p₀ p : Profiles} {b : ℕ} {rows : List (List ℕ)} → Ranges s → RowsFit s rows →
    Filling s p₀ p b (λ j k. pair_flow rows 3 j + lands_in s s.left (pair_flow rows 0 j) k + lands_in s s.through (pair_flow rows 1 j) k) →
    {p' : Profiles} → p' ≡ entry_step s.running s.cycle s.right (get_or rows 2 []) p → p' ≡ filled_of s rows p₀
unfolding filled_of flow_at entry_step spread_step
then_last {s} {p₀} {p} {b} {rows} ranges fit h e =
    let l : length (entry_profile s.cycle s.right) ≡ s.cycle = entry_length s.cycle s.right in
    let t = then_entry h ranges (get_or rows 2 []) ranges.right (fit.four 2 (omega arith)) fit.right e in
    e ∙ rw (← (ap (λ (q : Profiles). q.output) e), t.runs, l, h.first, h.second)

-- filling keeps the profiles' lengths
pub filled_room : (s : Segment) (rows : List (List ℕ)) (p : Profiles) → Room s.cycle p → {n : ℕ} → Room n p → Room n (filled_of s rows p)
unfolding filled_of
filled_room s rows p fits r =
    let q = entry_profile s.cycle s.right in
    let before = reported_length s.running q (cycles_before - 1) ∙ entry_length s.cycle s.right in
    let last = reported_length s.running q cycles_before ∙ entry_length s.cycle s.right in
    room_kept p (filled_of s rows p) r
    (runs_length s.cycle (flow_at s rows) (drop (4 * s.cycle) p.output) ∙ simp length-drop (omega (arith, fits.output)))
    (simp (length-append, length-drop) (omega (arith, last, fits.first)))
    (simp (length-append, length-drop) (omega (arith, before, fits.second)))

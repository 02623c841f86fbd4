-- One entry: what its dispersion and its arrivals ask, and what they leave, over plain variables.
use Prim.Native.Nat.{ℕ, ◌-◌}
use native.Mathlib.Omega.{arith}
use native.Mathlib.Nat.{sub-zero}
use mathlib.Core.Bool.{false}
use mathlib.Core.Path.{◌≡◌, ap, ◌∙◌}
use mathlib.Core.List.{List, ◌++◌}
use lib.ListN.{length, take, drop}
use lib.Seq.{take_at}
use Rattle.segment.specs.declared.Entry.{Entry}
use Rattle.metering.specs.Metering.{discharge_volume}
use Rattle.entries.specs.Entries.{entry_profile}
use Rattle.entries.proofs.Laws.{entry_length, entry_le}
use Rattle.dispersion.specs.declared.PlatoonState.{PlatoonState}
use Rattle.dispersion.specs.Dispersion.{Work, work, arrival_time_of, reported, cycles_worked, last_part}
use Rattle.dispersion.specs.Arrivals.{arrival_time_small}
use Rattle.dispersion.specs.Cycles.{last_part_lem, reported_length, reported_le, held_after, odd_left}
use Rattle.arrivals.specs.Arrivals.{arrival_limit, entry_added}
use Rattle.arrivals.specs.Arrivals as arrivals
use Rattle.propagation.specs.Propagation.{Profiles, profiles, cycles_before, cycles}
use Rattle.propagation.specs.Steps.{SpreadFits, spread_step, FillEntryFits, entry_step}

module _ (running : ℕ) (q f g : List ℕ) {st : PlatoonState} {f' g' : List ℕ} (e : work st f' g' ≡ cycles_worked running q cycles f g) where
  -- the part handed back is the reported cycle
  pub part_is : {part : List ℕ} → part ≡ last_part f' g' cycles (length q) → part ≡ reported running q cycles
  part_is p = p ∙ last_part_lem running q cycles_before f g e

  -- their number is odd
  left : work st f' g' ≡ held_after running q f g (cycles_before - 1) false
  left = e ∙ odd_left running q (cycles_before - 1) f g (omega arith)

  pub first_is : f' ≡ reported running q cycles ++ drop (length q) f
  first_is = ap (λ (w : Work). w.first) left

  pub second_is : g' ≡ reported running q cycles_before ++ drop (length q) g
  second_is = ap (λ (w : Work). w.second) left

  pub spread_adds : {units : ℕ} {row out part : List ℕ} → SpreadFits running units row q (profiles out f g) →
      part ≡ last_part f' g' cycles (length q) → {t : ℕ} → t ≡ arrival_time_of running → arrivals.EntryFits units t row part out
  spread_adds h p et = rw (part_is p, et) h.adds

  pub spread_done : (units : ℕ) (row out : List ℕ) {part out' : List ℕ} → part ≡ last_part f' g' cycles (length q) → {t : ℕ} → t ≡ arrival_time_of running →
      out' ≡ entry_added (length part) t units part row out → profiles out' f' g' ≡ spread_step running units row q (profiles out f g)
  unfolding spread_step
  spread_done units row out p et eo =
      let l : length (reported running q cycles) ≡ length q = reported_length running q cycles_before in
      rw (eo, part_is p, et, l, first_is, second_is)

-- the front of the longest cycle's array, after a run went to it
module _ (c : ℕ) (e : Entry) (ys : List ℕ) (made : ys ≡ entry_profile c e) where
  pub front : (rest : List ℕ) → take (c - 0) (ys ++ rest) ≡ entry_profile c e
  front rest = rw (sub-zero, made) (take_at (entry_profile c e) rest c (entry_length c e))

-- what the spreading asks of an entry of the record
pub entry_asks : {running c o : ℕ} {e : Entry} {row : List ℕ} {p : Profiles} → FillEntryFits running c e o row p →
    {units : ℕ} → units ≡ discharge_volume c e → {q : List ℕ} → q ≡ entry_profile c e → SpreadFits running units row q p
entry_asks {running} {c} {o} {e} {row} {p} h eu eq =
    let l : length (entry_profile c e) ≡ c = entry_length c e in
    let n : length (reported running (entry_profile c e) cycles) ≡ c = reported_length running (entry_profile c e) cycles_before ∙ l in
    rw (eu, eq)
    (record {
      time = h.time;
      first = omega (arith, l, h.room.first);
      second = omega (arith, l, h.room.second);
      adds = record {
        some = omega (arith, n, h.cycle);
        cycle = omega (arith, n, h.cycle);
        room = omega (arith, n, h.room.output);
        shares = h.shares;
        time = arrival_time_small running h.time;
        arrivals = reported_le running arrival_limit (entry_profile c e) cycles (entry_le c e h.entry);
        small = λ k hk. h.small k (rw n at hk);
      };
    })

pub entry_done : (running c : ℕ) (e : Entry) (row : List ℕ) (p : Profiles) {p' : Profiles} {units : ℕ} → units ≡ discharge_volume c e →
    {q : List ℕ} → q ≡ entry_profile c e → p' ≡ spread_step running units row q p → p' ≡ entry_step running c e row p
unfolding entry_step
entry_done running c e row p eu eq h = h ∙ rw (eu, eq)

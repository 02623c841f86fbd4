-- Laws of specs/Laws.antt.
use Rattle.std.specs.Prelude.{ℕ, ◌≤◌, ◌≡◌, List, ◌++◌, length, get_or}
use Rattle.std.proofs.Common.{arith, ◌∙◌}
use Rattle.limits.specs.Limits.{flow_limit}
use Rattle.lists.specs.Lists.{tab_length}
use Rattle.runs.specs.Runs.{run_first, run_behind}
use Rattle.movements.specs.Movements.{flow_units}
use Rattle.signal.specs.Landing.{landed}
use Rattle.segment.specs.declared.Entry.{Entry}
use Rattle.segment.specs.declared.Segment.{Segment}
use Rattle.ranges.specs.Ranges.{EntryRanges}
use Rattle.metering.specs.Metering.{discharge_volume}
use Rattle.metering.proofs.Metering.{discharge_volume_served}
use Rattle.platoon.specs.Discharge.{profile_of}
use Rattle.platoon.proofs.Conserved.{profile_sum, profile_le}
use Rattle.platoon.proofs.Steps.{profile_green, profile_red}
use Rattle.entries.specs.Entries.{entry_profile, entry_profiles, EntryRuns, EntryDischarge}

pub entry_length : (c : ℕ) (e : Entry) → length (entry_profile c e) ≡ c
unfolding entry_profile profile_of landed
entry_length c e = tab_length _ 1 c

-- each green step, the zeros elsewhere, and the total: no more than its green can serve is discharged
pub entry_discharge : (c : ℕ) (e : Entry) → EntryRanges c e → EntryDischarge c e (discharge_volume c e) (entry_profile c e)
unfolding entry_profile
entry_discharge c e r =
    record {
      green = profile_green c e.green e.saturation e.arriving (discharge_volume c e) r.green;
      red = profile_red c e.green e.saturation e.arriving (discharge_volume c e) r.green;
      total = profile_sum c e.green e.saturation e.arriving (discharge_volume c e) (omega (arith, r.green.start)) r.arriving
          (discharge_volume_served c e);
    }

pub entry_le : (c : ℕ) (e : Entry) → EntryRanges c e → (i : ℕ) → get_or (entry_profile c e) i 0 ≤ flow_units flow_limit
unfolding entry_profile
entry_le c e r i = omega (arith, profile_le c e.green e.saturation e.arriving (discharge_volume c e) r.green i, r.saturation)

-- three runs of C numbers, whatever stands beyond them
runs_in_front : (s : Segment) (rest : List ℕ) →
    EntryRuns s (entry_profile s.cycle s.left ++ (entry_profile s.cycle s.through ++ (entry_profile s.cycle s.right ++ rest)))
runs_in_front s rest =
    let c = s.cycle in
    let x = entry_profile c s.left in
    let y = entry_profile c s.through in
    let z = entry_profile c s.right in
    let past-x = run_behind c x (y ++ (z ++ rest)) (entry_length c s.left) in
    let past-y = run_behind c y (z ++ rest) (entry_length c s.through) in
    record {
      left = run_first c x (y ++ (z ++ rest)) (entry_length c s.left);
      through = past-x 0 ∙ run_first c y (z ++ rest) (entry_length c s.through);
      right = past-x 1 ∙ past-y 0 ∙ run_first c z rest (entry_length c s.right);
    }

pub entry_runs : (s : Segment) (p : List ℕ) → EntryRuns s (entry_profiles s p)
unfolding entry_profiles
entry_runs s p = runs_in_front s _

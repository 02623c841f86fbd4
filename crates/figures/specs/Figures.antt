-- The starred figures of the paper, computed from the definitions that the contracts cite.
use Rattle.std.specs.Prelude.{ℕ, ◌≡◌, refl, List, [], ◌∷◌, ◌++◌, take, drop, replicate, Ok, Err}
use Rattle.refusal.specs.Refusal.{number, Or, need}
use Rattle.octets.specs.Octets.{word2, word4}
use Rattle.lists.specs.Lists.{tab}
use Rattle.signal.specs.declared.Green.{Green}
use Rattle.segment.specs.declared.Segment.{Segment}
use Rattle.signal.specs.Turn.{turn}
use Rattle.signal.specs.Greens.{green_step, green_steps}
use Rattle.signal.specs.Landing.{landing, landed}
use Rattle.segment.specs.Layout.{green_of, greens_of, entry_of, volumes_of, row_of, table_of}
use Rattle.segment.specs.Segment.{zero_seeds, seeds_of, segment_of}
use Rattle.ranges.specs.Tests.{cycle_fits, running_fits, headway_fits, volumes_fit, greens_fit, seeds_add}
use Rattle.validation.specs.Validation.{check_of}
use Rattle.metering.specs.Metering.{capacity, discharge_volume}
use Rattle.platoon.specs.Discharge.{carried, green_arrivals, received, served_of, served, queue_of, green_flows, profile_of}
use Rattle.entries.specs.Entries.{entry_profile, entry_profiles}
use Rattle.validation.specs.Accepting.{accept_with}
use Rattle.discharge.specs.Discharge.{accept_of, profile_after}
use Rattle.dispersion.specs.Dispersion.{divisor_of, arrival_time_of, empty_state, step_of, state_after}
use Rattle.pair_parts.specs.PairParts.{parts, pair_arrivals}
use Rattle.exit_figures.specs.ExitFigures.{blocked, blocked_steps}
use Rattle.archive_format.specs.Archive.{body, places, encode, titled, rising, last_number, filed_from, runs, decode_body, decode, add_to, add_of}
use Rattle.archive_format.specs.Figures.{empty_archive, one_record, one_length, one_trailer}
use Rattle.figures.specs.Records.{through_entry}

abbrev pub green : ℕ → ℕ → Green
green post steps = record { start = record { 0 = post }; steps = steps }

-- level and carry after each of the first two steps from an empty segment
abbrev pub first_arrivals : Or Segment → List ℕ
first_arrivals (Err refusal) = number refusal ∷ []
first_arrivals (Ok s) =
    let q = entry_profile s.cycle s.through in
    let one = state_after s.running (take 1 q) empty_state in
    let two = state_after s.running (take 2 q) empty_state in
    one.level ∷ one.carry ∷ two.level ∷ two.carry ∷ []

unfoldable pub computed : List (List ℕ)
computed =
    -- post 0, length 1; post 55, length 10, C 60
    green_steps 60 (green 0 1)
    ∷ green_steps 60 (green 55 10)
    -- capacity, in thousandths of veh/h
    ∷ (capacity 1800 31 70 ∷ [])
    -- G 10 over 4 green steps
    ∷ tab (received 10 4) 1 4
    -- the discharge of the through entry, by the discharge call on its record
    ∷ take 60 (drop 60 (profile_after (accept_of through_entry 180) (replicate 180 0)))
    -- platoon arrival times
    ∷ (arrival_time_of 1000 ∷ arrival_time_of 40098 ∷ arrival_time_of 40099 ∷ [])
    -- the first two arrivals of that record's through entry, each with its carry
    ∷ first_arrivals (check_of through_entry)
    -- arrivals 1 1 1 at a share of a third
    ∷ pair_arrivals 1 3 (1 ∷ 1 ∷ 1 ∷ [])
    -- blocked steps of one flow at headway 4100
    ∷ (blocked_steps 4100 (878048 ∷ []) ∷ blocked_steps 4100 (878049 ∷ []) ∷ [])
    -- the empty archive; one untitled record added to it: trailer and length
    ∷ empty_archive
    ∷ one_trailer
    ∷ (one_length ∷ [])
    ∷ []

pub figures :
    computed
    ≡ (1 ∷ [])
    ∷ (56 ∷ 57 ∷ 58 ∷ 59 ∷ 60 ∷ 1 ∷ 2 ∷ 3 ∷ 4 ∷ 5 ∷ [])
    ∷ (797142 ∷ [])
    ∷ (2 ∷ 3 ∷ 2 ∷ 3 ∷ [])
    ∷ (replicate 15 1800000 ++ (replicate 15 600000 ++ replicate 30 0))
    ∷ (1 ∷ 34 ∷ 35 ∷ [])
    ∷ (263350 ∷ 1375000 ∷ 488171 ∷ 607500 ∷ [])
    ∷ (0 ∷ 0 ∷ 1 ∷ [])
    ∷ (0 ∷ 1 ∷ [])
    ∷ (0 ∷ 0 ∷ 0 ∷ 0 ∷ 68 ∷ 82 ∷ [])
    ∷ (0 ∷ 0 ∷ 1 ∷ 0 ∷ 69 ∷ 0 ∷ 68 ∷ 82 ∷ [])
    ∷ (77 ∷ [])
    ∷ []
unfolding computed divisor_of arrival_time_of step_of state_after parts pair_arrivals blocked blocked_steps body places encode titled
    rising last_number filed_from runs decode_body decode add_to add_of empty_archive one_record tab turn green_step green_steps capacity received
    landing landed need word2 word4 green_of greens_of entry_of volumes_of row_of table_of zero_seeds seeds_of segment_of cycle_fits running_fits
    headway_fits volumes_fit greens_fit seeds_add check_of discharge_volume carried green_arrivals served_of served queue_of green_flows profile_of
    entry_profile entry_profiles accept_with
figures = refl

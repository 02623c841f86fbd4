-- The library's answers as structs of numbers: the paper's number, 0 where accepted, and the values beside it.
use Rattle.std.specs.Prelude.{ℕ, ◌≡◌, List, length, Result, Ok, Err}
use Rattle.refusal.specs.Refusal.{number, Or}
use Rattle.runs.specs.Runs.{run_at}
use Rattle.movements.specs.declared.Signalised.{Signalised}
use Rattle.segment.specs.Segment.{segment_of}
use Rattle.pair_flows.specs.Pairs.{pair_flows}
use Rattle.balance_pairs.specs.Pairs.{no_pairs}
use Rattle.balance_decision.specs.declared.Unworked.{Unworked}
use Rattle.balance_decision.specs.Unworked.{unworked_number, last_sum}
use Rattle.exit_figures.specs.declared.ExitFigures.{ExitFigures}
use Rattle.propagation.specs.Propagation.{Profiles, pair_flow}
use Rattle.accuracy.specs.Accuracy.{Accurate}
use Rattle.working_outcome.specs.declared.Working.{Working}
use Rattle.working.specs.Working.{call_of}
use Rattle.page.specs.Laid.{Laid}
use Rattle.sheet_page.specs.Told.{Told}
use Rattle.sheet.specs.Sheet.{sheet_call_of}
use Rattle.points.specs.declared.Points.{Points}
use Rattle.point_flows.specs.PointAccuracy.{PointsAccurate}
use Rattle.point_working.specs.declared.PointWorking.{PointWorking}
use Rattle.point_working.specs.PointWorking.{none_blocked, point_call_of}
use Rattle.discharge.specs.Discharge.{accept_of, volumes_after, profile_after, EntriesDischarge}
use Rattle.archive_format.specs.declared.TitlePart.{TitlePart}
use Rattle.archive_format.specs.Archive.{new_length, overwrite}
use Rattle.exports.specs.declared.WorkAnswer.{WorkAnswer}
use Rattle.exports.specs.declared.PointWorkAnswer.{PointWorkAnswer}
use Rattle.exports.specs.declared.VolumesAnswer.{VolumesAnswer}
use Rattle.exports.specs.declared.ValueAnswer.{ValueAnswer}
use Rattle.exports.specs.declared.TitleAnswer.{TitleAnswer}

abbrev pub no_figures : ExitFigures
no_figures = record { total = 0; green = 0; permille = 0 }

-- what does not work tells nothing but its number, and 15 its last sum
abbrev pub work_answer : Result Working Unworked → WorkAnswer
work_answer (Ok w) =
    record {
      number = 0;
      rounds = w.rounds;
      sum = w.sum;
      arrival = w.arrival;
      blocked = w.blocked;
      pairs = w.pairs;
      left = w.left;
      through = w.through;
      right = w.right;
      access = w.access;
    }
work_answer (Err u) =
    record {
      number = unworked_number u;
      rounds = 0;
      sum = last_sum u;
      arrival = 0;
      blocked = 0;
      pairs = pair_flows no_pairs;
      left = no_figures;
      through = no_figures;
      right = no_figures;
      access = 0;
    }

-- the working as called: its answer in numbers, all three profiles, and demand 3 of every record and all profiles that it accepts
pub record SegmentWorks (l : List ℕ) (p : Profiles) (r : WorkAnswer) (p' : Profiles) : Type 0 where
  pub answer : r ≡ work_answer (call_of l p).answer
  pub after : p' ≡ (call_of l p).after
  pub accurate : r.number ≡ 0 → Accurate (segment_of l) r.pairs.rows p'

abbrev pub point_work_answer : Result PointWorking Unworked → PointWorkAnswer
point_work_answer (Ok w) = record { work = work_answer (Ok w.working); blocked = w.blocked }
point_work_answer (Err u) = record { work = work_answer (Err u); blocked = none_blocked }

-- the working with points as called: its answer in numbers, all four profiles, and demand 3 and every point's run of all that it accepts
pub record SegmentPointWorks (l : List ℕ) (ps : Points) (p : Profiles) (q : List ℕ) (r : PointWorkAnswer) (p' : Profiles) (q' : List ℕ) : Type 0 where
  pub answer : r ≡ point_work_answer (point_call_of l ps p q).answer
  pub after : p' ≡ (point_call_of l ps p q).after
  pub passing : q' ≡ (point_call_of l ps p q).passing
  pub accurate : r.work.number ≡ 0 → Accurate (segment_of l) r.work.pairs.rows p'
  pub points : r.work.number ≡ 0 → PointsAccurate (segment_of l) ps q'

-- the sheet as called: its answer in numbers, all three profiles, the page buffer, and demand 3 and the page's form of all that it accepts
pub record SegmentSheets (l : List ℕ) (p : Profiles) (t : List ℕ) (r : WorkAnswer) (p' : Profiles) (t' : List ℕ) : Type 0 where
  pub answer : r ≡ work_answer (sheet_call_of l p t).answer
  pub after : p' ≡ (sheet_call_of l p t).after
  pub page : t' ≡ (sheet_call_of l p t).page
  pub accurate : r.number ≡ 0 → Accurate (segment_of l) r.pairs.rows p'
  pub laid : r.number ≡ 0 → Laid t'
  pub told : r.number ≡ 0 → Told (pair_flow r.pairs.rows) (run_at (segment_of l).cycle 1 p'.output) t'

abbrev pub volumes_answer : Or (Signalised ℕ) → VolumesAnswer
volumes_answer (Ok o) = record { number = 0; left = o.left; through = o.through; right = o.right }
volumes_answer (Err r) = record { number = number r; left = 0; through = 0; right = 0 }

-- the discharge call: its answer in numbers, the profile, and what every accepted record's entries discharge there
pub record SegmentDischarges (l p : List ℕ) (r : VolumesAnswer) (p' : List ℕ) : Type 0 where
  pub answer : r ≡ volumes_answer (volumes_after (accept_of l (length p)))
  pub profile : p' ≡ profile_after (accept_of l (length p)) p
  pub entries : r.number ≡ 0 → EntriesDischarge (segment_of l) (record { left = r.left; through = r.through; right = r.right }) p'

abbrev pub value_answer : Or ℕ → ValueAnswer
value_answer (Ok n) = record { number = 0; value = n }
value_answer (Err r) = record { number = number r; value = 0 }

-- a call that writes bytes to a lent buffer, or refuses: its answer in numbers, and the buffer afterwards
pub record ArchiveWrites (x : Or (List ℕ)) (before : List ℕ) (r : ValueAnswer) (after : List ℕ) : Type 0 where
  pub answer : r ≡ value_answer (new_length x)
  pub buffer : after ≡ overwrite x before

abbrev pub title_answer : Or TitlePart → TitleAnswer
title_answer (Ok part) = record { number = 0; place = part.place; length = part.length }
title_answer (Err r) = record { number = number r; place = 0; length = 0 }

-- What the answers in numbers mean: 0 is an accepted working, the part told of an archive is the title.
use Rattle.std.specs.Prelude.{ℕ, ◌≡◌, refl, List, take, drop, Result, Ok, Err}
use Rattle.std.proofs.Common.{arith, ap, ◌∙◌}
use Rattle.refusal.specs.Refusal.{Or}
use Rattle.refusal.specs.Numbers.{never_0}
use Rattle.runs.specs.Runs.{run_at}
use Rattle.segment.specs.Segment.{segment_of}
use Rattle.balance_decision.specs.declared.Unworked.{Unworked}
use Rattle.balance_decision.specs.declared.Unworked.TheVariants.{Refused, Unsettled}
use Rattle.balance_decision.specs.Unworked.{unworked_number}
use Rattle.propagation.specs.Propagation.{Profiles, pair_flow}
use Rattle.accuracy.specs.Accuracy.{Accurate}
use Rattle.working_outcome.specs.declared.Working.{Working}
use Rattle.working.specs.Working.{Called, Works}
use Rattle.page.specs.Laid.{Laid}
use Rattle.sheet_page.specs.Told.{Told}
use Rattle.sheet.specs.Sheet.{SheetCalled, Sheets}
use Rattle.points.specs.declared.Points.{Points}
use Rattle.point_flows.specs.PointAccuracy.{PointsAccurate}
use Rattle.point_working.specs.declared.PointWorking.{PointWorking}
use Rattle.point_working.specs.PointWorking.{PointCalled, PointWorks}
use Rattle.archive_format.specs.declared.TitlePart.{TitlePart}
use Rattle.archive_format.specs.Archive.{first_edition, bytes_at, title_part_of, title_of}
use Rattle.exports.specs.declared.WorkAnswer.{WorkAnswer}
use Rattle.exports.specs.declared.PointWorkAnswer.{PointWorkAnswer}
use Rattle.exports.specs.declared.TitleAnswer.{TitleAnswer}
use Rattle.exports.specs.Exports.{SegmentWorks, work_answer, SegmentPointWorks, point_work_answer, SegmentSheets}
use Rattle.exports.specs.Exports.{title_answer}

-- what does not work has another number
pub unworked_above : (u : Unworked) → unworked_number u ≡ 0 → ⊥
unworked_above (Refused r) e = never_0 r e
unworked_above (Unsettled sum) e = absurd (omega arith)

-- so what is so of every working is so of an answer with the number 0
pub worked_at : (P : WorkAnswer → Type 0) (r : Result Working Unworked) → ((w : Working) → r ≡ Ok w → P (work_answer (Ok w))) →
    (work_answer r).number ≡ 0 → P (work_answer r)
worked_at P (Ok w) h e = h w refl
worked_at P (Err u) h e = absurd (unworked_above u e)

pub point_worked_at : (P : PointWorkAnswer → Type 0) (r : Result PointWorking Unworked) → ((w : PointWorking) → r ≡ Ok w → P (point_work_answer (Ok w))) →
    (point_work_answer r).work.number ≡ 0 → P (point_work_answer r)
point_worked_at P (Ok w) h e = h w refl
point_worked_at P (Err u) h e = absurd (unworked_above u e)

-- the call's contract, in numbers
pub segment_works : (l : List ℕ) (p : Profiles) (r : Result Working Unworked) (p' : Profiles) (a : WorkAnswer) → Works l p r p' → a ≡ work_answer r →
    SegmentWorks l p a p'
segment_works l p r p' a works e =
    record {
      answer = e ∙ ap (λ (c : Called). work_answer c.answer) works.is;
      after = ap (λ (c : Called). c.after) works.is;
      accurate = rw e (worked_at (λ b. Accurate (segment_of l) b.pairs.rows p') r works.accurate);
    }

-- the call's with points, in numbers
pub segment_point_works : (l : List ℕ) (ps : Points) (p : Profiles) (q : List ℕ) (r : Result PointWorking Unworked) (p' : Profiles) (q' : List ℕ)
    (a : PointWorkAnswer) → PointWorks l ps p q r p' q' → a ≡ point_work_answer r → SegmentPointWorks l ps p q a p' q'
segment_point_works l ps p q r p' q' a works e =
    record {
      answer = e ∙ ap (λ (c : PointCalled). point_work_answer c.answer) works.is;
      after = ap (λ (c : PointCalled). c.after) works.is;
      passing = ap (λ (c : PointCalled). c.passing) works.is;
      accurate = rw e (point_worked_at (λ b. Accurate (segment_of l) b.work.pairs.rows p') r works.accurate);
      points = rw e (point_worked_at (λ b. PointsAccurate (segment_of l) ps q') r works.points);
    }

-- the sheet's, in numbers
pub segment_sheets : (l : List ℕ) (p : Profiles) (t : List ℕ) (r : Result Working Unworked) (p' : Profiles) (t' : List ℕ) (a : WorkAnswer) →
    Sheets l p t r p' t' → a ≡ work_answer r → SegmentSheets l p t a p' t'
segment_sheets l p t r p' t' a sheets e =
    record {
      answer = e ∙ ap (λ (c : SheetCalled). work_answer c.answer) sheets.is;
      after = ap (λ (c : SheetCalled). c.after) sheets.is;
      page = ap (λ (c : SheetCalled). c.page) sheets.is;
      accurate = rw e (worked_at (λ b. Accurate (segment_of l) b.pairs.rows p') r sheets.accurate);
      laid = rw e (worked_at (λ b. Laid t') r sheets.laid);
      told = rw e (worked_at (λ b. Told (pair_flow b.pairs.rows) (run_at (segment_of l).cycle 1 p'.output) t') r sheets.told);
    }

abbrev pub part_of : TitleAnswer → List ℕ → List ℕ
part_of t l = take t.length (drop t.place l)

-- the part of the archive that is told is the title
pub title_answer_lem : (l : List ℕ) (n : ℕ) → part_of (title_answer (title_part_of first_edition l n)) l ≡ title_of first_edition l n
unfolding title_of
title_answer_lem l n = go (title_part_of first_edition l n)
  where
    go : (t : Or TitlePart) → part_of (title_answer t) l ≡ bytes_at l t
    go (Ok part) = refl
    go (Err r) = refl

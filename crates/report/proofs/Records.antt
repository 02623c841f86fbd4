-- The text of one record, and of the records of an archive one after another.
use Rattle.std.specs.Prelude.{ℕ, ◌*◌, ◌≡◌, List, length, drop, Result, Ok, Err}
use Rattle.std.proofs.Common.{arith, ap, sym, ◌∙◌}
use Rattle.limits.specs.Limits.{most_cycle}
use Rattle.refusal.specs.declared.Refusal.{Refusal}
use Rattle.refusal.specs.Refusal.{number}
use Rattle.octets.specs.Octets.{word2, word4}
use Rattle.buffer.specs.declared.Writer.{Writer}
use Rattle.buffer.specs.Buffer.{Wrote}
use Rattle.buffer.specs.Pieces.{Appending}
use Rattle.buffer.proofs.Pieces.{appending_start, appending_turn, appending_done}
use Rattle.segment.specs.declared.Segment.{Segment}
use Rattle.segment.specs.Layout.{size, cycle_at}
use Rattle.segment.specs.Segment.{segment_of}
use Rattle.propagation.specs.Propagation.{Profiles, longest, filled_of}
use Rattle.propagation.specs.Steps.{Room}
use Rattle.balance_decision.specs.declared.Unworked.{Unworked}
use Rattle.working_outcome.specs.declared.Working.{Working}
use Rattle.working_outcome.specs.Filled.{Filled}
use Rattle.working_outcome.proofs.Figures.{output_long}
use Rattle.working.specs.Working.{Called, called, Works, call_of}
use Rattle.working.proofs.Ways.{call_worked}
use Rattle.archive_format.specs.declared.Edition.{Edition}
use Rattle.archive_format.specs.Archive.{first_edition, filed_from}
use Rattle.archive_open.specs.declared.Archive.{Archive}
use Rattle.archive_open.specs.Opened.{Opens, held, held_filed}
use Rattle.archive_open.specs.declared.records.Records.{Records}
use Rattle.archive_open.specs.Walking.{Walk, walk}
use Rattle.archive_open.specs.Records.{IsRecord, Through, through_on, through_next, through_read, through_long}
use Rattle.report_lines.specs.Lines.{archive_refused_line}
use Rattle.sheet_page.specs.SheetPage.{RunStands}
use Rattle.report.specs.declared.Form.{Form}
use Rattle.report.specs.Report.{text_in, segment_text, records_text, archive_text}
use Rattle.report.specs.Working.{same_text, longest_room}

-- ---- one record

module _ (l : List ℕ) {p p' : Profiles} {r : Result Working Unworked} (works : Works l p r p') {cycle : ℕ} (es : cycle ≡ word2 l cycle_at) where
  module _ (room : Room most_cycle p) where
    -- what is printed of the call is printed of the record
    worked_alone : (form : Form) {number : ℕ} → number ≡ word4 l 0 → {t t' : Writer} →
        Wrote t (text_in form number cycle (called r p')) t' → Wrote t (segment_text form l) t'
    unfolding segment_text segment_of
    worked_alone form {number} en v =
        let same : text_in form number cycle (called r p') ≡ text_in form (word4 l 0) (segment_of l).cycle (call_of l longest) =
        rw (en, es, works.is) (same_text form (word4 l 0) l p longest room longest_room) in
        rw same at v

    -- by the form that was matched
    pub worked_in : {form : Form} (f : Form) → form ≡ f → {number : ℕ} → number ≡ word4 l 0 → {t t' : Writer} →
        Wrote t (text_in f number cycle (called r p')) t' → Wrote t (segment_text form l) t'
    worked_in f e en v = rw e (worked_alone f en v)

  -- and where it has worked, the output holds its through run
  pub run_stands : RunStands cycle r p'.output
  unfolding segment_of filled_of
  run_stands =
      record {
        worked = λ w e.
            let b = call_worked l p w (sym (ap (λ (c : Called). c.answer) works.is) ∙ e) in
            let same : cycle ≡ b.segment.cycle = es ∙ sym (ap (λ (s : Segment). s.cycle) b.accepted.is) in
            let left : p' ≡ filled_of b.segment b.decision.pairs.rows p = ap (λ (c : Called). c.after) (works.is ∙ b.is) in
            let filled : Filled b.segment b.decision.pairs.rows p'.output =
            record { rest = drop (4 * b.segment.cycle) p.output; is = ap (λ (q : Profiles). q.output) left } in
            omega (arith, output_long filled);
      }

-- ---- the records in order

-- the text so far and that of the records left
pub record Reporting (form : Form) (l : List ℕ) (count : ℕ) (t₀ t : Writer) (r : Records) : Type 0 where
  pub through : Through size l r
  pub puts : Appending t₀ (records_text form (filed_from size count l 0)) t (records_text form (filed_from size r.left l r.place))

-- the records of an archive of the first edition, from the first of them on
module _ (a : Archive) (first : a.sized.edition ≡ first_edition) where
  pub walked : Walk size a.bytes.now a.count 0
  walked = rw first at (walk a)

  pub report_start : (form : Form) (t : Writer) {r : Records} → r.size ≡ size → r.bytes.now ≡ a.bytes.now → r.left ≡ a.count → r.place ≡ 0 →
      Reporting form a.bytes.now a.count t t r
  report_start form t es eb el ep =
      record {
        through = record { sized = es; bytes = eb; walk = rw (es, eb, el, ep) walked };
        puts = rw (el, ep) (appending_start t _);
      }

module _ {form : Form} {l : List ℕ} {count : ℕ} {t₀ t : Writer} {r : Records} (w : Reporting form l count t₀ t r) where
  module _ {place : ℕ} {b : List ℕ} {r' : Records} (g : IsRecord r place b r') where
    pub report_long : length b ≡ size
    report_long = through_long w.through g

    pub report_turn : {t' : Writer} → Wrote t (segment_text form b) t' → Reporting form l count t₀ t' r'
    unfolding filed_from records_text
    report_turn v =
        record {
          through = through_on w.through g;
          puts = appending_turn w.puts v _ (rw (g.one, through_read w.through g, through_next w.through g));
        }

  pub report_done : r.left ≡ 0 → Wrote t₀ (records_text form (filed_from size count l 0)) t
  unfolding filed_from records_text
  report_done e = appending_done w.puts (rw e)

-- ---- the archive

module _ {e : Edition} (first : e ≡ first_edition) (form : Form) (l : List ℕ) {t t' : Writer} where
  pub archive_refused : (r : Refusal) → Opens e l (Err r) → Wrote t (archive_refused_line (number r)) t' → Wrote t (archive_text form l) t'
  unfolding archive_text
  archive_refused r o v = rw (rw first at o) v

  pub archive_read : (a : Archive) → Opens e l (Ok a) →
      Wrote t (records_text form (filed_from size a.count a.bytes.now 0)) t' → Wrote t (archive_text form l) t'
  unfolding archive_text
  archive_read a o v = rw (rw first at (held_filed e l (held a o))) (rw o.1 at v)

-- Laws of specs/Whole.antt: How long the text gets, and the room that holds all of it.
use Rattle.std.specs.Prelude.{ℕ, zero, suc, ◌+◌, ◌*◌, ◌≤◌, ◌<◌, Bool, true, false, cond, ◌≡◌, refl, List, leb, ltb, length, take, drop, Ok, Err}
use Rattle.std.proofs.Common.{arith, sym, length-append, take_at, get_or-drop, le-leb}
use Rattle.std.proofs.lemmas.Bool.{lt-leb}
use Rattle.refusal.specs.declared.Refusal.{Refusal}
use Rattle.refusal.specs.declared.Refusal.TheVariants.{BufferRoom}
use Rattle.refusal.specs.Refusal.{Or, need, fails}
use Rattle.octets.specs.Octets.{word4}
use Rattle.buffer.specs.Buffer.{WroteAt}
use Rattle.buffer.proofs.Pieces.{wrote_fits}
use Rattle.segment.specs.Layout.{number_at}
use Rattle.segment.specs.Segment.{segment_of}
use Rattle.working.specs.Working.{call_of}
use Rattle.propagation.specs.Propagation.{longest}
use Rattle.working.proofs.Ways.{call_number}
use Rattle.archive_format.specs.Archive.{record_limit, Filed, next_at, filed_from, count_at, decode, first_edition, Writes}
use Rattle.archive_format.specs.Reading.{reads}
use Rattle.report_lines.specs.Lines.{archive_refused_line}
use Rattle.report_lines.specs.Lengths.{archive_refused_line_lem}
use Rattle.report_record.specs.Lengths.{record_text_lem}
use Rattle.sheet_page.specs.Fits.{first_below}
use Rattle.sheet_page.proofs.Pages.{record_long}
use Rattle.sheet.specs.Sized.{number_small, called_sized}
use Rattle.report.specs.declared.Form.{Form}
use Rattle.report.specs.declared.Form.TheVariants.{Lines, Sheet}
use Rattle.report.specs.Report.{segment_text, records_text, read_text, archive_text, input_limit, input_text, text_room, text_of, report_of, sheets_of}
use Rattle.report.specs.Whole.{record_room, Bytes, Text}

segment_text_lem : (form : Form) (bytes : List ℕ) → Bytes bytes → length (segment_text form bytes) ≤ record_room form
unfolding segment_text
segment_text_lem Lines bytes h = record_text_lem _ _ _
segment_text_lem Sheet bytes h =
    omega (
      arith,
      record_long (word4 bytes number_at) (segment_of bytes).cycle (call_of bytes longest).answer (call_of bytes longest).after.output
          (omega (arith, number_small bytes h)) (called_sized bytes h longest) (λ u e. omega (arith, call_number bytes longest u e)),
    )

-- a part of a list of bytes is one
part_bytes : (l : List ℕ) → Bytes l → (n at : ℕ) → Bytes (take n (drop at l))
part_bytes l h n at = first_below 256 n (drop at l) (omega arith) (λ i. rw get_or-drop (h (at + i)))

records_text_lem : (form : Form) (l : List ℕ) → Bytes l → (size count at : ℕ)
    → length (records_text form (filed_from size count l at)) ≤ count * record_room form
unfolding records_text filed_from
records_text_lem form l h size zero at = omega arith
records_text_lem form l h size (suc k) at =
    rw length-append
    (omega (arith, segment_text_lem form (take size (drop at l)) (part_bytes l h size at), records_text_lem form l h size k (next_at size l at)))

-- ---- all of an archive's 512 records

most_room : (form : Form) (n : ℕ) → n ≤ record_limit → n * record_room form ≤ text_room form
most_room Lines n h = omega arith
most_room Sheet n h = omega arith

line_room_lem : (form : Form) (k : ℕ) → length (archive_refused_line k) ≤ text_room form
line_room_lem Lines k = omega (arith, archive_refused_line_lem k)
line_room_lem Sheet k = omega (arith, archive_refused_line_lem k)

archive_text_lem : (form : Form) (l : List ℕ) → Bytes l → length (archive_text form l) ≤ text_room form
unfolding archive_text
archive_text_lem form l h = go (decode first_edition l) refl
  where
    go : (x : Or (List Filed)) → decode first_edition l ≡ x → length (read_text form x) ≤ text_room form
    go (Err r) e = line_room_lem form _
    go (Ok fs) e =
        let m = reads first_edition l fs e in
        rw (← m.held) (omega (arith, records_text_lem form l h first_edition.size (count_at l) 0, most_room form (count_at l) m.many))

input_text_lem : (form : Form) (l : List ℕ) → Bytes l → length (input_text form l) ≤ text_room form
unfolding input_text
input_text_lem form l h = go (ltb input_limit (length l))
  where
    go : (b : Bool) → length (cond b (archive_refused_line 2) (archive_text form l)) ≤ text_room form
    go true = line_room_lem form 2
    go false = archive_text_lem form l h

-- ---- the calls

-- a buffer that is too short is refused, and stays
pub text_refused : (form : Form) (l t : List ℕ) {room : ℕ} → room ≡ text_room form → (r : Refusal) {v : Or (Unit {0})} →
    v ≡ need BufferRoom (leb room (length t)) (Ok tt) → v ≡ Err r → Writes (text_of form l (length t)) t (Err r) t
text_refused form l t e r {v} d was =
    let is : Err r ≡ text_of form l (length t) = fails BufferRoom r (leb (text_room form) (length t)) v (Ok (input_text form l)) (rw e at d) was in
    rw (sym is) (record { answer = refl; buffer = refl })

pub text_short : (form : Form) (l t : List ℕ) {room : ℕ} → room ≡ text_room form → length t < room → Writes (text_of form l (length t)) t (Err BufferRoom) t
unfolding need
text_short form l t {room} e h = text_refused form l t e BufferRoom refl (rw (lt-leb room (length t) h) refl)

-- one that has room holds the whole text, and what stood behind it
pub text_whole : (form : Form) (l t : List ℕ) → Bytes l → {room : ℕ} → room ≡ text_room form → room ≤ length t →
    {t' : List ℕ} {n : ℕ} → WroteAt t 0 (input_text form l) t' n → Writes (text_of form l (length t)) t (Ok n) t'
unfolding need
text_whole form l t bytes e roomy w =
    let h : text_room form ≤ length t = rw e at roomy in
    let fits = wrote_fits w (omega (arith, input_text_lem form l bytes)) in
    let z : 0 + length (input_text form l) ≡ length (input_text form l) = omega arith in
    rw (le-leb _ _ h) (record { answer = rw (fits.1, z); buffer = rw z at fits.0 })

-- a caller with room reads the whole text
pub whole_text : (form : Form) (l t : List ℕ) {r : Or ℕ} {t' : List ℕ} → text_room form ≤ length t → Writes (text_of form l (length t)) t r t'
    → Text form l t' r
unfolding need
whole_text form l t {r} {t'} h w =
    let v = rw (le-leb (text_room form) (length t) h) at w in
    record {
      answer = v.answer;
      within = rw (v.buffer, length-append) (omega arith);
      is = rw v.buffer (take_at (input_text form l) (drop (length (input_text form l)) t) _ refl);
    }

pub report_text : (l t : List ℕ) {r : Or ℕ} {t' : List ℕ} → text_room Lines ≤ length t → Writes (report_of l (length t)) t r t' → Text Lines l t' r
unfolding report_of
report_text l t h w = whole_text Lines l t h w

pub sheets_text : (l t : List ℕ) {r : Or ℕ} {t' : List ℕ} → text_room Sheet ≤ length t → Writes (sheets_of l (length t)) t r t' → Text Sheet l t' r
unfolding sheets_of
sheets_text l t h w = whole_text Sheet l t h w

pub text_part : {form : Form} {l t : List ℕ} {r : Or ℕ} {n : ℕ} → Text form l t r → r ≡ Ok n → (n ≤ length t) × (take n t ≡ input_text form l)
text_part {form} {l} {t} {r} {n} x e =
    let same : length (input_text form l) ≡ n = cc x.answer in
    (omega (arith, x.within), rw (← same) x.is)

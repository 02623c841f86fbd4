-- Laws of specs/Laid.antt: What a page looks like, byte by byte, where its lines' texts fit.
use Rattle.std.specs.Prelude.{ℕ, zero, suc, ◌+◌, ◌-◌, ◌*◌, ◌≤◌, ◌<◌, true, ◌≡◌, refl, List, [], ◌∷◌, ◌++◌, get_or, replicate}
use Prim.Native.Char.{code}
use Rattle.std.proofs.Common.{arith, ap, ◌∙◌, append_assoc, length-append, get_or-take, get_or-drop, get_or-append-add}
use Rattle.std.proofs.Math.Path.{sym}
use Rattle.std.proofs.Math.ListN.{length, get_or-append}
use Rattle.std.proofs.lemmas.List.{length-replicate}
use Rattle.refusal.specs.Refusal.{both}
use Rattle.runs.specs.Runs.{run_at, run_first, run_behind}
use Rattle.text.specs.Text.{blanks}
use Rattle.text.specs.Words.{newline}
use Rattle.text.specs.Columns.{printed_byte, printed, printed_append, printed_blanks}
use Rattle.page.specs.Page.{line_width, page_lines, page_room, line, lines, page}
use Rattle.page.specs.Laws.{lines_append}
use Rattle.page.specs.Laid.{line_room, Fits, AllFit, fit_append, line_length, Laid, none, one}

fits_empty : Fits []
unfolding printed
fits_empty = record { wide = omega arith; bytes = refl }

fit_blanks : (n : ℕ) → AllFit (replicate n [])
fit_blanks zero = none
fit_blanks (suc n) = one fits_empty (fit_blanks n)

fit_at : {ts : List (List ℕ)} → AllFit ts → (i : ℕ) → Fits (get_or ts i [])
fit_at none i = fits_empty
fit_at (one h f) zero = h
fit_at (one h f) (suc i) = fit_at f i

lines_length : {ts : List (List ℕ)} → AllFit ts → length (lines ts) ≡ length ts * line_room
unfolding lines
lines_length none = refl
lines_length (one {t} {ts} h f) = rw (length-append, line_length t h.wide, lines_length f) (omega arith)

lines_at : {ts : List (List ℕ)} → AllFit ts → (behind : List ℕ) (i : ℕ) → i < length ts → run_at line_room i (lines ts ++ behind) ≡ line (get_or ts i [])
unfolding lines
lines_at none behind i m = absurd (omega arith)
lines_at (one {t} {ts} h f) behind zero m = rw append_assoc (run_first line_room (line t) (lines ts ++ behind) (line_length t h.wide))
lines_at (one {t} {ts} h f) behind (suc i) m =
    rw append_assoc (run_behind line_room (line t) (lines ts ++ behind) (line_length t h.wide) i ∙ lines_at f behind i (omega arith))

-- ---- pages

-- the blank lines are lines of empty texts
page_lines_lem : (ts : List (List ℕ)) → page ts ≡ lines (ts ++ replicate (page_lines - length ts) [])
unfolding page
page_lines_lem ts = sym (lines_append ts (replicate (page_lines - length ts) []))

padded_at : (ts : List (List ℕ)) (n i : ℕ) → get_or (ts ++ replicate n []) i [] ≡ get_or ts i []
padded_at [] zero i = refl
padded_at [] (suc n) zero = refl
padded_at [] (suc n) (suc i) = padded_at [] n i
padded_at (t ∷ ts) n zero = refl
padded_at (t ∷ ts) n (suc i) = padded_at ts n i

module _ {ts : List (List ℕ)} (f : AllFit ts) (few : length ts ≤ page_lines) where
  padded : AllFit (ts ++ replicate (page_lines - length ts) [])
  padded = fit_append f (fit_blanks (page_lines - length ts))

  count : length (ts ++ replicate (page_lines - length ts) []) ≡ page_lines
  count = rw (length-append, length-replicate) (omega arith)

  pub page_length : length (page ts) ≡ page_room
  page_length = rw (page_lines_lem ts, lines_length padded, count)

  -- line i of a page in front of a buffer: that of its text, or blank
  pub page_line : (behind : List ℕ) (i : ℕ) → i < page_lines → run_at line_room i (page ts ++ behind) ≡ line (get_or ts i [])
  page_line behind i m =
      rw (page_lines_lem ts) (lines_at padded behind i (omega (arith, count)) ∙ ap line (padded_at ts (page_lines - length ts) i))

printed_at : (l : List ℕ) → printed l ≡ true → (j : ℕ) → j < length l → printed_byte (get_or l j 0) ≡ true
unfolding printed
printed_at [] h j m = absurd (omega arith)
printed_at (b ∷ l) h zero m = (both (printed_byte b) (printed l) h).0
printed_at (b ∷ l) h (suc j) m = printed_at l (both (printed_byte b) (printed l) h).1 j (omega arith)

module _ (t : List ℕ) (h : Fits t) where
  -- the 72 bytes before the newline
  front : List ℕ
  front = t ++ blanks (line_width - length t)

  front_length : length front ≡ line_width
  unfolding front
  front_length = rw (length-append, length-replicate) (omega (arith, h.wide))

  line_front : line t ≡ front ++ newline
  unfolding line front
  line_front = sym (append_assoc t (blanks (line_width - length t)) newline)

  line_byte : (j : ℕ) → j < line_width → printed_byte (get_or (line t) j 0) ≡ true
  unfolding front
  line_byte j m =
      let here : j < length front = omega (arith, front_length) in
      rw (line_front, get_or-append front newline 0 j here)
      (printed_at front (printed_append t (blanks (line_width - length t)) h.bytes (printed_blanks (line_width - length t))) j here)

  line_newline : get_or (line t) line_width 0 ≡ code "\n"
  line_newline = let e : line_width ≡ length front + 0 = omega (arith, front_length) in rw (line_front, e) (get_or-append-add front newline 0 0)

-- a byte of line i
byte_of : (buffer : List ℕ) (i j : ℕ) → j < line_room → get_or (run_at line_room i buffer) j 0 ≡ get_or buffer (i * line_room + j) 0
byte_of buffer i j m = rw (get_or-take, get_or-drop)

pub page_laid : {ts : List (List ℕ)} → AllFit ts → length ts ≤ page_lines → (behind : List ℕ) → Laid (page ts ++ behind)
page_laid {ts} f few behind =
    record {
      long = rw length-append (omega (arith, page_length f few));
      texts = λ i j m n. rw (← (byte_of (page ts ++ behind) i j (omega arith)), page_line f few behind i m) (line_byte (get_or ts i []) (fit_at f i) j n);
      newlines = λ i m. rw (← (byte_of (page ts ++ behind) i line_width (omega arith)), page_line f few behind i m)
          (line_newline (get_or ts i []) (fit_at f i));
    }

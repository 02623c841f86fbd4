-- What a page looks like, byte by byte, where its lines' texts fit.
use Rattle.std.specs.Prelude.{ℕ, ◌+◌, ◌*◌, ◌≤◌, ◌<◌, true, ◌≡◌, List, [], ◌∷◌, ◌++◌, get_or}
use Prim.Native.Char.{code}
use Rattle.std.proofs.Common.{arith, length-append}
use Rattle.std.proofs.Math.ListN.{length}
use Rattle.std.proofs.lemmas.List.{length-replicate}
use Rattle.text.specs.Columns.{printed_byte, printed}
use Rattle.page.specs.Page.{line_width, page_lines, page_room, line}

-- a line and its newline
abbrev pub line_room : ℕ
line_room = line_width + 1

-- a text that fits a line, of printed bytes alone
pub record Fits (t : List ℕ) : Type 0 where
  pub wide : length t ≤ line_width
  pub bytes : printed t ≡ true

-- texts that do
pub data AllFit : List (List ℕ) → Type 0 where
  none : AllFit []
  one : {t : List ℕ} {ts : List (List ℕ)} → Fits t → AllFit ts → AllFit (t ∷ ts)

pub fit_append : {ts us : List (List ℕ)} → AllFit ts → AllFit us → AllFit (ts ++ us)
fit_append none g = g
fit_append (one h f) g = one h (fit_append f g)

-- ---- lines

pub line_length : (t : List ℕ) → length t ≤ line_width → length (line t) ≡ line_room
unfolding line
line_length t h = rw (length-append, length-append, length-replicate) (omega arith)

-- ---- byte by byte

-- sixty lines of 72 printed bytes and a newline, in front of a buffer
pub record Laid (buffer : List ℕ) : Type 0 where
  pub long : page_room ≤ length buffer
  pub texts : (i j : ℕ) → i < page_lines → j < line_width → printed_byte (get_or buffer (i * line_room + j) 0) ≡ true
  pub newlines : (i : ℕ) → i < page_lines → get_or buffer (i * line_room + line_width) 0 ≡ code "\n"

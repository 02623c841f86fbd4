-- The print room's page: sixty lines of 72 bytes, each behind it a newline.
use Rattle.std.specs.Prelude.{ℕ, ◌+◌, ◌-◌, ◌*◌, List, [], ◌∷◌, ◌++◌, length, replicate}
use Rattle.buffer.specs.declared.Writer.{Writer}
use Rattle.buffer.specs.Buffer.{Wrote}
use Rattle.text.specs.Text.{blanks}
use Rattle.text.specs.Words.{newline}

abbrev pub line_width : ℕ
line_width = 72

abbrev pub page_lines : ℕ
page_lines = 60

-- the bytes of a page
abbrev pub page_room : ℕ
page_room = page_lines * (line_width + 1)

-- the end of a line whose text has n bytes: blanks to its width, a newline
abbrev pub line_end : ℕ → List ℕ
line_end n = blanks (line_width - n) ++ newline

unfoldable pub line : List ℕ → List ℕ
line t = t ++ line_end (length t)

-- lines one after another, from their texts
unfoldable pub lines : List (List ℕ) → List ℕ
lines [] = []
lines (t ∷ ts) = line t ++ lines ts

-- a call of words, by where it may leave the writer: it writes x
abbrev pub Words : (Writer → Type 0) → Writer → List ℕ → Type 0
Words Left t x = (worded : Writer) → Left worded → Wrote t x worded

-- so many blank lines
abbrev pub blank_lines : ℕ → List ℕ
blank_lines n = lines (replicate n [])

-- the lines given, and blank ones to the page's end
unfoldable pub page : List (List ℕ) → List ℕ
page ts = lines ts ++ blank_lines (page_lines - length ts)

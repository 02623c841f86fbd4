-- Bytes put into a lent buffer from a place on.
use Rattle.std.specs.Prelude.{ℕ, ◌+◌, min, max, ◌≡◌, List, length}
use Rattle.std.proofs.lemmas.List.Edits.{sets}
use Rattle.buffer.specs.declared.Writer.{Writer}

-- a buffer and the place in it where the next piece goes
pub record Cursor : Type 0 where
  pub buffer : List ℕ
  pub at : ℕ

abbrev pub cursor : List ℕ → ℕ → Cursor
cursor b p = record { buffer = b; at = p }

-- the next place: the end of the buffer at most; a place past the end stays
unfoldable pub next_place : List ℕ → ℕ → List ℕ → ℕ
next_place b at piece = max at (min (at + length piece) (length b))

-- the piece stored from the place on, as much of it as the buffer has room for, and the next place
unfoldable pub put : Cursor → List ℕ → Cursor
put c piece = record { buffer = sets c.buffer c.at piece; at = next_place c.buffer c.at piece }

-- a piece put from a place on: the whole buffer afterwards and the next place
pub record WroteAt (b : List ℕ) (at : ℕ) (piece b' : List ℕ) (next : ℕ) : Type 0 where
  pub is : cursor b' next ≡ put (cursor b at) piece

-- where a writer stands
abbrev pub cursor_of : Writer → Cursor
cursor_of t = cursor t.bytes.now t.at

-- a call that puts a piece by a writer, whose buffer stays the one that it was lent
pub record Wrote (t : Writer) (piece : List ℕ) (t' : Writer) : Type 0 where
  pub lent : t'.bytes.ghost_name ≡ t.bytes.ghost_name
  pub is : cursor_of t' ≡ put (cursor_of t) piece

-- What is written is the part of the buffer that holds the line.
use Rattle.std.proofs.Common.{ℕ, List, ap, sym, length-take-le, arith}
use Rattle.buffer.specs.Buffer.{Cursor, cursor, next_place, put, WroteAt}
use Rattle.buffer.proofs.Pieces.{wrote_within}
use Rattle.vectors.proofs.finish.Goals as goal

pub slice_bounds-write_all-end : goal.slice_bounds-write_all-end
slice_bounds-write_all-end g c = wrote_within c.closing_line-n.ensures (omega arith)

pub slice_bounds-write_all-end-2 : goal.slice_bounds-write_all-end-2
slice_bounds-write_all-end-2 g c = sym (length-take-le _ _ (wrote_within c.closing_line-n.ensures (omega arith)))

-- the place handed back is the next one, so that the line stands in the buffer also where it is not handed back
filled : (b : List ℕ) (at : ℕ) (piece b' : List ℕ) (next : ℕ) → WroteAt b at piece b' next → WroteAt b at piece b' (next_place b at piece)
unfolding put
filled b at piece b' next w = record { is = ap (λ (c : Cursor). cursor c.buffer (next_place b at piece)) w.is }

pub returns-in_err-write_all-clause-filled : goal.returns-in_err-write_all-clause-filled
returns-in_err-write_all-clause-filled g c = filled _ _ _ _ _ c.closing_line-n.ensures

pub returns-clause-filled : goal.returns-clause-filled
returns-clause-filled g c = filled _ _ _ _ _ c.closing_line-n.ensures

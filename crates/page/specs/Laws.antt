-- Laws of lines: one ended by the places that its text took, and lines one after another.
use Rattle.std.specs.Prelude.{ℕ, ◌-◌, ◌≡◌, refl, List, [], ◌∷◌, ◌++◌}
use Rattle.std.proofs.Common.{ap, ◌∙◌, append_assoc, append-nil}
use Rattle.buffer.specs.declared.Writer.{Writer}
use Rattle.buffer.specs.Buffer.{Wrote, WroteAt}
use Rattle.buffer.proofs.Pieces.{ended_by, wrote_at}
use Rattle.page.specs.Page.{line, line_end, lines}

pub line_at : {b : List ℕ} {at : ℕ} {t b' : List ℕ} {p : ℕ} {b'' : List ℕ} {q : ℕ} →
    WroteAt b at t b' p → WroteAt b' p (line_end (p - at)) b'' q → WroteAt b at (line t) b'' q
unfolding line
line_at u v = ended_by line_end u v

-- by a writer
pub line_ended : {t t' t'' : Writer} {x : List ℕ} → Wrote t x t' → Wrote t' (line_end (t'.at - t.at)) t'' → Wrote t (line x) t''
line_ended u v = record { lent = v.lent ∙ u.lent; is = (line_at (wrote_at u) (wrote_at v)).is }

pub lines_append : (ts us : List (List ℕ)) → lines (ts ++ us) ≡ lines ts ++ lines us
unfolding lines
lines_append [] us = refl
lines_append (t ∷ ts) us = rw append_assoc (ap (λ (l : List ℕ). line t ++ l) (lines_append ts us))

pub line_alone : (t : List ℕ) → lines (t ∷ []) ≡ line t
unfolding lines
line_alone t = append-nil (line t)

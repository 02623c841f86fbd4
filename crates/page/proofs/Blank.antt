-- The loop over blank lines: the first of those left, and none.
use Rattle.std.specs.Prelude.{ℕ, suc, ◌+◌, ◌-◌, ◌≤◌, ◌<◌, ◌≡◌, [], ◌++◌}
use Rattle.std.proofs.Common.{arith, ap, refl, sym}
use Rattle.buffer.specs.declared.Writer.{Writer}
use Rattle.buffer.specs.Buffer.{Wrote}
use Rattle.buffer.proofs.Pieces.{put_nil}
use Rattle.page.specs.Page.{blank_lines, line, lines}

pub blank_first : (n i : ℕ) → i < n → blank_lines (n - i) ≡ line [] ++ blank_lines (n - (i + 1))
unfolding lines
blank_first n i more =
    let left : n - i ≡ suc (n - (i + 1)) = omega arith in
    ap blank_lines left

pub blank_none : (n i : ℕ) → n ≤ i → blank_lines (n - i) ≡ []
unfolding lines
blank_none n i none = let z : n - i ≡ 0 = omega arith in rw z

-- no words write nothing
pub no_words : {t t' : Writer} → t' ≡ t → Wrote t [] t'
no_words {t} e = rw e (record { lent = refl; is = sym (put_nil t.bytes.now t.at) })

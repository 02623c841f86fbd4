-- What a read gave stands behind what was read before.
use Rattle.std.proofs.Common.{◌≡◌, ℕ, ◌+◌, ◌≤◌, List, ◌++◌, rules, length, take, sym, ◌∙◌, subst, le_refl, drop_at, length-take-le}
use Rattle.std.proofs.lemmas.Slice.{take-put_mid_below}
use Rattle.std.specs.Io.KnownBytes.{Consumes}
use Rattle.std.proofs.KnownBytes.{Consumes-trans}
use borrow.Rule.Slice.PartMut.{put_mid, post_of}
use lib.Seq.{take-add, take-append-le}
use Rattle.reading.proofs.read_full.Goals as goal

-- the front up to a and the front of the part that is put in behind it
take-put_mid_within : (a k n : ℕ) (xs ys : List ℕ) → a ≤ length xs → n ≤ length ys → take (a + n) (put_mid a k xs ys) ≡ take a xs ++ take n ys
take-put_mid_within a k n xs ys within fits =
    take-add a n (put_mid a k xs ys)
    ∙ rw (take-put_mid_below a k xs ys a (le_refl a) within, drop_at (take a xs) (ys ++ post_of a k xs) a (length-take-le a xs within))
    (rw (take-append-le n ys (post_of a k xs) fits))

pub loop-n-preserved : goal.loop-n-preserved
loop-n-preserved g c =
    let before = c.loop-n.invariant in
    let read = c.in_ok-more.ensures in
    let joined = take-put_mid_within c.loop-n.n _ c.in_ok-more.more c.loop-n.buffer c.read.new.buf before.0 read.bound.0 in
    (search rules, subst (Consumes _ _) (sym joined) (Consumes-trans _ _ _ _ _ before.1 read.bytes.0))

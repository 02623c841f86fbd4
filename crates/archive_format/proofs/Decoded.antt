-- Laws of specs/Decoded.antt: An archive that reads is the encoding of its records, and they are fit to be encoded.
use Rattle.std.specs.Prelude.{ℕ, suc, ◌+◌, ◌*◌, ◌-◌, ◌≤◌, ◌≡◌, List, [], ◌∷◌, length, drop, Ok}
use Rattle.std.proofs.Common.{arith, ◌∙◌, drop-cons}
use Rattle.std.proofs.Math.Seq.{drop-length}
use Rattle.archive_format.specs.declared.Edition.{Edition}
use Rattle.archive_format.specs.Archive.{Filed, encode}
use Rattle.archive_format.specs.Archive.{count_at, trailer_at, decode}
use Rattle.archive_format.specs.Reading.{Reads, reads}
use Rattle.archive_format.specs.Words.{Bytes, word_split}
use Rattle.archive_format.specs.Decoded.{Fit, body_laid, places_laid, shaped_laid}

-- ---- every archive that reads is the encoding of its records

pub decoded_is_encoding : (e : Edition) (l : List ℕ) (fs : List Filed) → Bytes l → decode e l ≡ Ok fs → l ≡ encode e fs
unfolding encode
decoded_is_encoding e l fs hb r =
    let m : Reads e l fs = reads e l fs r in
    let w : trailer_at l ≤ length l = omega (arith, m.sized) in
    let w2 : trailer_at l + 2 * count_at l ≤ length l = omega (arith, m.sized) in
    let six : trailer_at l + 2 * count_at l ≡ length l - 6 = omega (arith, m.sized) in
    let four : length l - 6 + 2 ≡ length l - 4 = omega (arith, m.six) in
    let pair : length l - 4 + 2 ≡ length l - 2 = omega (arith, m.six) in
    let last : suc (length l - 2) ≡ length l - 1 = omega (arith, m.six) in
    let end : suc (length l - 1) ≡ length l = omega (arith, m.six) in
    let six-in : length l - 6 + 2 ≤ length l = omega (arith, m.six) in
    let four-in : length l - 4 + 2 ≤ length l = omega (arith, m.six) in
    let tail : drop (length l - 2) l ≡ e.first ∷ e.second ∷ [] =
    drop-cons l (length l - 2) 0 (omega (arith, m.six))
    ∙ rw (last, drop-cons l (length l - 1) 0 (omega (arith, m.six)), end, drop-length l, m.mark, m.mark') in
    body_laid e.size (count_at l) l (trailer_at l) 0 (trailer_at l) w m.run
    ∙ rw (places_laid e.size (count_at l) l (trailer_at l) 0 (trailer_at l) hb w w2 m.run, six, word_split l (length l - 6) hb six-in)
    (rw (four, word_split l (length l - 4) hb four-in, pair, tail, m.held) (rw (m.count, m.trailer)))

pub decoded_is_fit : (e : Edition) (l : List ℕ) (fs : List Filed) → decode e l ≡ Ok fs → Fit e fs
decoded_is_fit e l fs r =
    let m : Reads e l fs = reads e l fs r in
    record {
      shaped = rw m.held at (shaped_laid e.size (count_at l) l (trailer_at l) 0 (trailer_at l) (omega (arith, m.sized)) m.run);
      titles = m.titles;
      risen = m.risen;
      many = omega (arith, m.many, m.count);
    }

-- Laws of specs/Sizes.antt: How long an archive gets, and that two bytes hold its count and its places.
use Rattle.std.specs.Prelude.{ℕ, zero, suc, ◌+◌, ◌*◌, ◌≤◌, ◌<◌, ◌≡◌, refl, true, List, [], ◌∷◌, ◌++◌, length, replicate, Ok}
use Rattle.std.proofs.Common.{mul-le-mul_right, arith, ap, length-append, lt-ltb}
use Rattle.std.proofs.Math.Nat.{mod-add-div}
use Rattle.refusal.specs.Refusal.{false_true}
use Rattle.octets.specs.Octets.{word4, bytes2}
use Rattle.segment.specs.Layout as layout
use Rattle.archive_format.specs.declared.Edition.{Edition}
use Rattle.archive_format.specs.Archive.{record_limit, title_limit, Filed, body, encode}
use Rattle.archive_format.specs.Archive.{titled, rising, decode, place_in, place_of, first_edition, place_after}
use Rattle.archive_format.specs.Words.{Bytes}
use Rattle.archive_format.specs.Decoded.{Shaped, Fit}
use Rattle.archive_format.proofs.Decoded.{decoded_is_fit, decoded_is_encoding}
use Rattle.archive_format.proofs.Encoded.{length_encode, encoding_reads}
use Rattle.archive_format.specs.Sizes.{body_bound, most, Small, numbered}

pub length_bound : (e : Edition) (fs : List Filed) → Fit e fs → length (encode e fs) ≤ most e
length_bound e fs f = omega (arith, length_encode e fs, body_bound e.size fs f.shaped, mul-le-mul_right (e.size + 1 + title_limit) f.many)

place_bound : (size p : ℕ) (fs : List Filed) (i x : ℕ) → Shaped size fs → place_in size p fs i ≡ Ok x → x ≤ p + length (body fs)
unfolding place_in body
place_bound size p [] i x s h = false_true (cc)
place_bound size p (f ∷ fs) zero x s h = let e : p ≡ x = cc in omega arith
place_bound size p (f ∷ fs) (suc i) x s h =
    simp length-append (omega (arith, s.0, place_bound size (place_after size p f) fs i x s.2 h))

pub encoding_is_small : (fs : List Filed) → Fit first_edition fs → Small (encode first_edition fs) fs
unfolding place_of
encoding_is_small fs f =
    let k : length fs ≤ record_limit = f.many in
    let b : length (body fs) ≤ length fs * 109 = body_bound layout.size fs f.shaped in
    record {
      whole = length_bound first_edition fs f;
      count = k;
      trailer = omega arith;
      place = λ i p h. omega (arith, place_bound layout.size 0 fs i p f.shaped (rw (encoding_reads first_edition fs f) at h));
    }

pub archive_is_small : (l : List ℕ) (fs : List Filed) → Bytes l → decode first_edition l ≡ Ok fs → Small l fs
archive_is_small l fs hb r = rw (decoded_is_encoding first_edition l fs hb r) (encoding_is_small fs (decoded_is_fit first_edition l fs r))

number_is : (n : ℕ) → word4 (bytes2 n ++ replicate 66 0) 0 ≡ n
unfolding word4
number_is n = omega (arith, mod-add-div n 256)

numbered_shaped : (k n : ℕ) → Shaped layout.size (numbered k n)
unfolding numbered
numbered_shaped zero n = tt
numbered_shaped (suc k) n = (refl, omega arith, numbered_shaped k (n + 1))

numbered_titled : (k n : ℕ) → titled (numbered k n) ≡ true
unfolding numbered titled
numbered_titled zero n = refl
numbered_titled (suc k) n = numbered_titled k (n + 1)

numbered_rising : (k n : ℕ) → rising n (numbered k n) ≡ true
unfolding numbered rising
numbered_rising zero n = refl
numbered_rising (suc k) n =
    let above : n < n + 1 = omega arith in
    rw (number_is (n + 1), lt-ltb _ _ above) (numbered_rising k (n + 1))

numbered_body : (k n : ℕ) → length (body (numbered k n)) ≡ k * 109
unfolding numbered body
numbered_body zero n = refl
numbered_body (suc k) n = omega (arith, numbered_body k (n + 1))

numbered_length : (k n : ℕ) → length (numbered k n) ≡ k
unfolding numbered
numbered_length zero n = refl
numbered_length (suc k) n = ap suc (numbered_length k (n + 1))

pub longest_fit : Fit first_edition (numbered record_limit 0)
longest_fit =
    record {
      shaped = numbered_shaped record_limit 0;
      titles = numbered_titled record_limit 0;
      risen = numbered_rising record_limit 0;
      many = omega (arith, numbered_length record_limit 0);
    }

pub longest_length : length (encode first_edition (numbered record_limit 0)) ≡ 56838
longest_length = omega (arith, length_encode first_edition (numbered record_limit 0), numbered_body record_limit 0, numbered_length record_limit 0)

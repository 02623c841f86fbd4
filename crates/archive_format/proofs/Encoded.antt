-- Laws of specs/Encoded.antt: The encoding of a fit list reads as that list.
use Rattle.std.specs.Prelude.{ℕ, ◌+◌, ◌*◌, ◌-◌, ◌≤◌, ◌≡◌, refl, List, [], ◌∷◌, ◌++◌, length, drop, get_or, Ok}
use Rattle.std.proofs.Common.{add-zero, arith, sym, ap, ◌∙◌, length-append, drop-drop, get_or-drop, drop_at, le-leb, eq-eqb}
use Rattle.refusal.specs.Refusal.{need}
use Rattle.octets.specs.Octets.{bytes2}
use Rattle.archive_format.specs.declared.Edition.{Edition}
use Rattle.archive_format.specs.Archive.{Filed, body, places, encode, titled, rising}
use Rattle.archive_format.specs.Archive.{decode_body, count_at, trailer_at, decode}
use Rattle.archive_format.specs.Words.{word_of}
use Rattle.archive_format.specs.Decoded.{Fit}
use Rattle.archive_format.specs.Encoded.{Runs, encoded_runs, length_places, ending}

pub length_encode : (e : Edition) (fs : List Filed) → length (encode e fs) ≡ length (body fs) + 2 * length fs + 6
unfolding encode
length_encode e fs = simp length-append (omega (arith, length_places e.size 0 fs))

encoded : (e : Edition) (fs : List Filed) → drop 0 (encode e fs) ≡ body fs ++ (places e.size 0 fs ++ ending e fs)
unfolding encode
encoded e fs = refl

dropped_body : (e : Edition) (fs : List Filed) → drop (length (body fs)) (encode e fs) ≡ places e.size 0 fs ++ ending e fs
unfolding encode
dropped_body e fs = drop_at (body fs) (places e.size 0 fs ++ ending e fs) (length (body fs)) refl

pub encoding_reads : (e : Edition) (fs : List Filed) → Fit e fs → decode e (encode e fs) ≡ Ok fs
unfolding decode decode_body need
encoding_reads e fs fit =
    let l : List ℕ = encode e fs in
    let t : ℕ = length (body fs) in
    let k : ℕ = length fs in
    let n : length l ≡ t + 2 * k + 6 = length_encode e fs in
    let n6 : length l - 6 ≡ t + 2 * k = omega arith in
    let n4 : length l - 4 ≡ t + 2 * k + 2 = omega arith in
    let n2 : length l - 2 ≡ t + 2 * k + 4 = omega arith in
    let n1 : length l - 1 ≡ t + 2 * k + 4 + 1 = omega arith in
    let tail : List ℕ = ending e fs in
    let at-t : drop t l ≡ places e.size 0 fs ++ tail = dropped_body e fs in
    let mark : List ℕ = e.first ∷ e.second ∷ [] in
    let at-6 : drop (t + 2 * k) l ≡ tail =
    sym (drop-drop (2 * k) t l) ∙ ap (λ (z : List ℕ). drop (2 * k) z) at-t ∙ drop_at (places e.size 0 fs) tail (2 * k) (length_places e.size 0 fs) in
    let at-4 : drop (t + 2 * k + 2) l ≡ bytes2 t ++ mark = sym (drop-drop 2 (t + 2 * k) l) ∙ ap (λ (z : List ℕ). drop 2 z) at-6 in
    let at-2 : drop (t + 2 * k + 4) l ≡ mark = sym (drop-drop 4 (t + 2 * k) l) ∙ ap (λ (z : List ℕ). drop 4 z) at-6 in
    let count : count_at l ≡ k = rw n6 (word_of l (t + 2 * k) k (bytes2 t ++ mark) at-6) in
    let trailer : trailer_at l ≡ t = rw n4 (word_of l (t + 2 * k + 2) t mark at-4) in
    let first : get_or l (length l - 2) 0 ≡ e.first =
    rw (n2, ← add-zero (t + 2 * k + 4)) (sym (get_or-drop (t + 2 * k + 4) l 0 0) ∙ ap (λ (z : List ℕ). get_or z 0 0) at-2) in
    let second : get_or l (length l - 1) 0 ≡ e.second = rw n1 (sym (get_or-drop (t + 2 * k + 4) l 1 0) ∙ ap (λ (z : List ℕ). get_or z 1 0) at-2) in
    let ran : Runs e.size fs l t 0 t =
    encoded_runs e.size fs l t 0 t (places e.size 0 fs ++ tail) tail fit.shaped (encoded e fs) at-t (omega arith) in
    let six : 6 ≤ length l = omega arith in
    let sized : t + 2 * k + 6 ≡ length l = sym n in
    rw (le-leb _ _ six, eq-eqb _ _ first, eq-eqb _ _ second, count, trailer, le-leb _ _ fit.many, eq-eqb _ _ sized)
    (rw (ran.run, ran.held, fit.titles, fit.risen))

pub empty_reads : (e : Edition) → decode e (encode e []) ≡ Ok []
unfolding titled rising
empty_reads e = encoding_reads e [] (record { shaped = tt; titles = refl; risen = refl; many = omega arith })

-- two different lists never have the same bytes
pub encoding_differs : (e : Edition) (fs gs : List Filed) → Fit e fs → Fit e gs → encode e fs ≡ encode e gs → fs ≡ gs
encoding_differs e fs gs a b same = cc (encoding_reads e fs a, encoding_reads e gs b)

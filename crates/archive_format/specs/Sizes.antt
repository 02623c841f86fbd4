-- How long an archive gets, and that two bytes hold its count and its places.
use Rattle.std.specs.Prelude.{ℕ, zero, suc, ◌+◌, ◌*◌, ◌≤◌, ◌≡◌, List, [], ◌∷◌, ◌++◌, length, replicate, Ok}
use Rattle.std.proofs.Common.{arith, length-append}
use Rattle.octets.specs.Octets.{bytes2}
use Rattle.archive_format.specs.declared.Edition.{Edition}
use Rattle.archive_format.specs.Archive.{record_limit, title_limit, Filed, body}
use Rattle.archive_format.specs.Archive.{place_of, first_edition}
use Rattle.archive_format.specs.Decoded.{Shaped}

pub body_bound : (size : ℕ) (fs : List Filed) → Shaped size fs → length (body fs) ≤ length fs * (size + 1 + title_limit)
unfolding body
body_bound size [] h = omega arith
body_bound size (f ∷ fs) h = simp length-append (omega (arith, h.0, h.1, body_bound size fs h.2))

-- the most bytes that an archive of an edition has
abbrev pub most : Edition → ℕ
most e = record_limit * (e.size + 1 + title_limit + 2) + 6

-- the first edition: 56838 bytes at most, and each number of the trailer below 65536
pub record Small (l : List ℕ) (fs : List Filed) : Type 0 where
  pub whole : length l ≤ 56838
  pub count : length fs ≤ record_limit
  pub trailer : length (body fs) ≤ 55808
  pub place : (i p : ℕ) → place_of first_edition l i ≡ Ok p → p ≤ 55808

-- ---- the bound is met: 512 records with titles of 40 spaces

unfoldable pub numbered : ℕ → ℕ → List Filed
numbered zero n = []
numbered (suc k) n = record { bytes = bytes2 (n + 1) ++ replicate 66 0; title = replicate title_limit 32 } ∷ numbered k (n + 1)

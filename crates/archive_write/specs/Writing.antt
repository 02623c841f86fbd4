-- The parts of an archive, as they are written.
use Rattle.std.specs.Prelude.{ℕ, ◌+◌, ◌*◌, ◌≤◌, ◌<◌, ◌≡◌, List, [], ◌∷◌, ◌++◌, length, take, drop}
use Rattle.std.proofs.Common.{arith, length-append}
use Rattle.octets.specs.Octets.{bytes2, word2_bound}
use Rattle.archive_format.specs.declared.Edition.{Edition}
use Rattle.archive_format.specs.Archive.{record_limit}
use Rattle.archive_write.specs.declared.NewRecord.{NewRecord}
use Rattle.archive_write.specs.declared.Parts.{Parts}

abbrev pub record_bytes : List ℕ → List ℕ → List ℕ
record_bytes b t = b ++ (length t ∷ t)

pub record_length : (b ti : List ℕ) → length (record_bytes b ti) ≡ length b + 1 + length ti
record_length b ti = simp length-append (omega arith)

abbrev pub end_bytes : Edition → ℕ → ℕ → List ℕ
end_bytes e count trailer = bytes2 count ++ (bytes2 trailer ++ (e.first ∷ e.second ∷ []))

-- an archive that was read, with one record more: of the old one, the records before its trailer at t and its places
unfoldable pub grown : Edition → List ℕ → ℕ → ℕ → List ℕ → List ℕ → List ℕ
grown e l count t b ti =
    take t l ++ (record_bytes b ti ++ (take (2 * count) (drop t l) ++ (bytes2 t ++ end_bytes e (count + 1) (t + length (record_bytes b ti)))))

-- what writing it asks, by the lengths of the old archive, the record, the title and the buffer
pub record Fits (count t old segment title room : ℕ) : Type 0 where
  pub few : count < record_limit
  pub short : title < 256
  pub placed : t + segment + 1 + title < word2_bound
  pub held : t + 2 * count ≤ old
  pub enough : t + segment + 1 + title + 2 * count + 8 ≤ room

-- the same two of an archive's parts and a new record, as the contracts name them
abbrev pub grown_by : Parts → NewRecord → List ℕ
grown_by p r = grown p.edition p.bytes.now p.count p.trailer r.bytes.now r.title.now

abbrev pub FitsIn : Parts → NewRecord → ℕ → Type 0
FitsIn p r room = Fits p.count p.trailer (length p.bytes.now) (length r.bytes.now) (length r.title.now) room

-- What adding answers and leaves in the buffer.
use Rattle.std.specs.Prelude.{List, ℕ, length}
use Rattle.archive_format.specs.declared.Edition.{Edition}
use Rattle.refusal.specs.Refusal.{Or}
use Rattle.archive_format.specs.Archive.{add_of, Writes}

-- an archive l, a record b and a title t to the buffer `out`
abbrev pub Adds : Edition → (l b t out : List ℕ) → Or ℕ → List ℕ → Type 0
Adds e l b t out r out' = Writes (add_of e l b t (length out)) out r out'

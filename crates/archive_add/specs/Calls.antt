-- Adding called again and again, from the six bytes of the empty archive: what was added without a refusal reads back as that list,
-- and an archive's records, added in order, are never refused and give its bytes again.
-- With e = segments: `encode e []` is what `archive_format::empty` answers, `Adds` the contract of `add`, the rest those of the reading calls.
use Rattle.std.specs.Prelude.{ℕ, suc, List, [], ◌∷◌, take, Ok, Err}
use Rattle.refusal.specs.declared.Refusal.{Refusal}
use Rattle.refusal.specs.Refusal.{Or}
use Rattle.archive_format.specs.declared.Edition.{Edition}
use Rattle.archive_format.specs.Archive.{Filed}
use Rattle.archive_add.specs.Adds.{Adds}

-- Calls that add records one after another to an archive, call i with the buffer `outs i`, whatever it holds.
-- A call that answers a length leaves the next archive in its buffer; the first refusal ends them.
pub data Calls (e : Edition) (outs : ℕ → List ℕ) : ℕ → List ℕ → List Filed → Or (List ℕ) → Type 0 where
  done : {i : ℕ} {l : List ℕ} → Calls e outs i l [] (Ok l)
  stopped : {i : ℕ} {l : List ℕ} {f : Filed} {fs : List Filed} (m : Refusal) (out' : List ℕ)
      → Adds e l f.bytes f.title (outs i) (Err m) out' → Calls e outs i l (f ∷ fs) (Err m)
  then : {i : ℕ} {l : List ℕ} {f : Filed} {fs : List Filed} {x : Or (List ℕ)} (n : ℕ) (out' : List ℕ)
      → Adds e l f.bytes f.title (outs i) (Ok n) out' → Calls e outs (suc i) (take n out') fs x → Calls e outs i l (f ∷ fs) x

-- What the call's answer says of the buffer: a length, that its first bytes read back and the rest stays; a refusal, that all stays.
use Rattle.std.specs.Prelude.{ℕ, ◌≡◌, refl, List, length, take, drop, Ok, Err}
use Rattle.std.proofs.Common.{◌∙◌, take_at, drop_at}
use Rattle.refusal.specs.declared.Refusal.{Refusal}
use Rattle.refusal.specs.Refusal.{Or, false_true}
use Rattle.archive_format.specs.declared.Edition.{Edition}
use Rattle.archive_format.specs.Archive.{add_of, new_length, overwrite}
use Rattle.archive_format.specs.Adding.{Added}
use Rattle.archive_format.proofs.Adding.{added}
use Rattle.archive_add.specs.Adds.{Adds}

module _ (e : Edition) (l b t out : List ℕ) where
  -- the new archive is the buffer's first bytes
  pub written : (n : ℕ) (out' : List ℕ) → Adds e l b t out (Ok n) out' → (add_of e l b t (length out) ≡ Ok (take n out')) × (drop n out' ≡ drop n out)
  written n out' a = go (add_of e l b t (length out)) refl a.answer a.buffer
    where
      go : (x : Or (List ℕ)) → add_of e l b t (length out) ≡ x → Ok n ≡ new_length x → out' ≡ overwrite x out
          → (add_of e l b t (length out) ≡ Ok (take n out')) × (drop n out' ≡ drop n out)
      go (Err m) x r o = false_true (cc)
      go (Ok new) x r o =
          let same : length new ≡ n = cc in
          let taken : take n out' ≡ new = rw o (take_at new (drop (length new) out) n same) in
          let left : drop n out' ≡ drop n out = rw (o, same) (drop_at new (drop n out) n same) in
          (x ∙ rw taken, left)

  pub read_back : (n : ℕ) (out' : List ℕ) → Adds e l b t out (Ok n) out' → Added e l b t (take n out')
  read_back n out' a = added e l b t (length out) (take n out') (written n out' a).0

  pub unwritten : (m : Refusal) (out' : List ℕ) → Adds e l b t out (Err m) out' → (add_of e l b t (length out) ≡ Err m) × (out' ≡ out)
  unwritten m out' a = go (add_of e l b t (length out)) refl a.answer a.buffer
    where
      go : (x : Or (List ℕ)) → add_of e l b t (length out) ≡ x → Err m ≡ new_length x → out' ≡ overwrite x out
          → (add_of e l b t (length out) ≡ Err m) × (out' ≡ out)
      go (Err k) x r o = let same : k ≡ m = cc in (x ∙ rw same, o)
      go (Ok new) x r o = false_true (cc)

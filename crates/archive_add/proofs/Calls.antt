-- Laws of specs/Calls.antt: Adding called again and again, from the six bytes of the empty archive: what was added without a refusal reads back as that list,
use Rattle.std.specs.Prelude.{ℕ, suc, ◌≤◌, ◌≡◌, refl, List, [], ◌∷◌, ◌++◌, length, take, Ok, Err}
use Rattle.std.proofs.Common.{arith, sym, ap, ◌∙◌, append-nil}
use Rattle.std.proofs.Math.Seq.{append_snoc}
use Rattle.refusal.specs.Refusal.{Or, ok_refused}
use Rattle.archive_format.specs.declared.Edition.{Edition}
use Rattle.archive_format.specs.Archive.{Filed, encode, decode, add_of, count_of, overwrite}
use Rattle.archive_format.specs.Words.{Bytes}
use Rattle.archive_format.specs.Decoded.{Fit}
use Rattle.archive_format.proofs.Decoded.{decoded_is_fit, decoded_is_encoding}
use Rattle.archive_format.proofs.Encoded.{empty_reads}
use Rattle.archive_format.specs.Records.{ReadsAs, records_from}
use Rattle.archive_format.proofs.Records.{reads_as, records_are}
use Rattle.archive_format.specs.Adding.{Added}
use Rattle.archive_format.proofs.Adding.{next_accepted}
use Rattle.archive_add.specs.Adds.{Adds}
use Rattle.archive_add.specs.Called.{written, read_back, unwritten}
use Rattle.archive_add.specs.Calls.{Calls, done, stopped, then}

module _ (e : Edition) (outs : ℕ → List ℕ) where
  -- ---- what was added reads back

  grown_reads : (i : ℕ) (l : List ℕ) (fs : List Filed) (x : Or (List ℕ)) (gs : List Filed) (l' : List ℕ)
      → Calls e outs i l fs x → decode e l ≡ Ok gs → x ≡ Ok l' → decode e l' ≡ Ok (gs ++ fs)
  grown_reads i l fs x gs l' (done {l = k}) r same = let z : k ≡ l' = cc in rw (← z, append-nil gs) r
  grown_reads i l fs x gs l' (stopped m out' a) r same = ok_refused (sym same)
  grown_reads i l fs x gs l' (then {i = j} {l = k} {f = f} {fs = rest} n out' a on) r same =
      let w : Added e k f.bytes f.title (take n out') = read_back e k f.bytes f.title (outs j) n out' a in
      let z : w.fs ≡ gs = cc in
      grown_reads (suc j) _ rest x (gs ++ (f ∷ [])) l' on (rw z at w.more) same ∙ ap Ok (append_snoc gs f rest)

  pub added_reads_back : (fs : List Filed) (l : List ℕ) → Calls e outs 0 (encode e []) fs (Ok l) → ReadsAs e l fs
  added_reads_back fs l c = reads_as e l fs (grown_reads 0 (encode e []) fs (Ok l) [] l c (empty_reads e) refl)

  -- ---- an archive's records give its bytes

  module _ (room : ℕ) (enough : (i : ℕ) → room ≤ length (outs i)) where
    accepted : (i : ℕ) (l : List ℕ) (fs : List Filed) (g : Filed) (gs : List Filed) → l ≡ encode e fs → Fit e (fs ++ (g ∷ gs))
        → length (encode e (fs ++ (g ∷ gs))) ≤ room → add_of e l g.bytes g.title (length (outs i)) ≡ Ok (encode e (fs ++ (g ∷ [])))
    accepted i l fs g gs same f h = rw same (next_accepted e fs g gs (length (outs i)) f (omega (arith, enough i)))

    grown_is : (i : ℕ) (l : List ℕ) (gs : List Filed) (x : Or (List ℕ)) (fs : List Filed) → Calls e outs i l gs x → l ≡ encode e fs
        → Fit e (fs ++ gs) → length (encode e (fs ++ gs)) ≤ room → x ≡ Ok (encode e (fs ++ gs))
    grown_is i l gs x fs (done {l = k}) same f h = rw (append-nil fs, same)
    grown_is i l gs x fs (stopped {i = j} {l = k} {f = g} {fs = rest} m out' a) same f h =
        ok_refused (sym (accepted j k fs g rest same f h) ∙ (unwritten e k g.bytes g.title (outs j) m out' a).0)
    grown_is i l gs x fs (then {i = j} {l = k} {f = g} {fs = rest} n out' a on) same f h =
        let next : take n out' ≡ encode e (fs ++ (g ∷ [])) = cc (accepted j k fs g rest same f h, (written e k g.bytes g.title (outs j) n out' a).0) in
        let snoc : (fs ++ (g ∷ [])) ++ rest ≡ fs ++ (g ∷ rest) = append_snoc fs g rest in
        grown_is (suc j) _ rest x (fs ++ (g ∷ [])) on next (rw snoc f) (rw snoc h) ∙ rw snoc

  pub every_archive : (l : List ℕ) (n : ℕ) (x : Or (List ℕ)) → Bytes l → count_of e l ≡ Ok n → ((i : ℕ) → length l ≤ length (outs i))
      → Calls e outs 0 (encode e []) (records_from e l n 0) x → x ≡ Ok l
  every_archive l n x hb a enough c =
      let fs : List Filed = records_from e l n 0 in
      let r : decode e l ≡ Ok fs = records_are e l n a in
      let same : l ≡ encode e fs = decoded_is_encoding e l fs hb r in
      grown_is (length l) enough 0 (encode e []) fs x [] c refl (decoded_is_fit e l fs r) (rw (← same) (omega arith)) ∙ ap Ok (sym same)

  -- ---- there are such calls, whatever the buffers and the records

  pub record Made (i : ℕ) (l : List ℕ) (fs : List Filed) : Type 0 where
    pub end : Or (List ℕ)
    pub calls : Calls e outs i l fs end

  pub made : (i : ℕ) (l : List ℕ) (fs : List Filed) → Made i l fs
  made i l [] = record { end = Ok l; calls = done }
  made i l (f ∷ fs) = go (add_of e l f.bytes f.title (length (outs i))) refl (λ next. made (suc i) next fs)
    where
      go : (x : Or (List ℕ)) → add_of e l f.bytes f.title (length (outs i)) ≡ x → ((next : List ℕ) → Made (suc i) next fs) → Made i l (f ∷ fs)
      go (Err m) a on =
          let call : Adds e l f.bytes f.title (outs i) (Err m) (outs i) = record { answer = sym (rw a); buffer = sym (rw a) } in
          record { end = Err m; calls = stopped {f = f} m (outs i) call }
      go (Ok new) a on =
          let out' : List ℕ = overwrite (Ok new) (outs i) in
          let rest : Made (suc i) (take (length new) out') fs = on (take (length new) out') in
          let call : Adds e l f.bytes f.title (outs i) (Ok (length new)) out' = record { answer = sym (rw a); buffer = sym (rw a) } in
          record { end = rest.end; calls = then {f = f} (length new) out' call rest.calls }

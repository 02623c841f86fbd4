-- Runs of c numbers in front of a profile, each worked with an item of its own, in order; and what a loop over them keeps.
use Rattle.std.specs.Prelude.{ℕ, ◌+◌, ◌-◌, ◌*◌, ◌≤◌, ◌<◌, ◌≡◌, refl, List, [], ◌∷◌, ◌++◌, get_or}
use native.Mathlib.Omega.{arith}
use Rattle.std.proofs.Math.Numerals.{add-one}
use Rattle.std.proofs.Common.{mul-le-mul_right, sym, ◌∙◌, append_assoc, length-append, take-append-drop, drop_of_length-le, drop-drop}
use Rattle.std.proofs.Math.ListN.{length, take, drop, length-drop}
use Rattle.std.proofs.Math.Seq.{drop-cons, take_at, drop_at, length-take-le}

-- what lies beyond stays
unfoldable pub per_run : {A : Type 0} → (A → List ℕ → List ℕ) → ℕ → List A → List ℕ → List ℕ
per_run g c [] out = out
per_run g c (a ∷ items) out = g a (take c out) ++ per_run g c items (drop c out)

-- the loop: the runs of j of n items are worked, the others as they were
pub record Worked {A : Type 0} (g : A → List ℕ → List ℕ) (c n : ℕ) (items : List A) (out₀ out : List ℕ) (j : ℕ) : Type 0 where
  pub within : j ≤ n
  pub long : length out ≡ length out₀
  pub rest : drop (j * c) out ≡ drop (j * c) out₀
  pub same : per_run g c items out₀ ≡ take (j * c) out ++ per_run g c (drop j items) (drop (j * c) out)

pub worked_start : {A : Type 0} (g : A → List ℕ → List ℕ) (c n : ℕ) (items : List A) (out : List ℕ) → Worked g c n items out out 0
worked_start g c n items out =
    let z : 0 * c ≡ 0 = omega arith in
    record { within = omega arith; long = refl; rest = refl; same = rw z }

-- run j of a profile, as a loop takes it
abbrev pub part : (c j : ℕ) → List ℕ → List ℕ
part c j out = take (j * c + c - j * c) (drop (j * c) out)

pub part_width : (a c : ℕ) → a + c - a ≡ c
part_width a c = omega arith

-- a run ends within the n
pub run_ends : (c n j : ℕ) → j < n → j * c + c ≤ n * c
run_ends c n j more = omega (arith, mul-le-mul_right c more)

module _ {A : Type 0} {g : A → List ℕ → List ℕ} {c n : ℕ} {items : List A} {out₀ out : List ℕ} {j : ℕ} (r : Worked g c n items out₀ out j)
    (more : j < n) (room : n * c ≤ length out₀) where
  -- the run that the loop works lies in the profile
  pub within_out : j * c + c ≤ length out
  within_out = omega (arith, r.long, run_ends c n j more)

  -- and is of c numbers
  pub part_length : length (part c j out) ≡ c
  part_length = rw part_width (length-take-le c (drop (j * c) out) (simp length-drop (omega (arith, within_out))))

  pub worked_turn : length items ≡ n → (d : A) (ys : List ℕ) → length ys ≡ length (part c j out) → ys ≡ g (get_or items j d) (part c j out) →
      Worked g c n items out₀ (take (j * c) out ++ (ys ++ drop (j * c + c - j * c) (drop (j * c) out))) (j + 1)
  unfolding per_run
  worked_turn all d ys kept is =
      let m : (j + 1) * c ≡ j * c + c = omega arith in
      let front = take (j * c) out ++ ys in
      let back = drop c (drop (j * c) out) in
      let lf : length (take (j * c) out ++ ys) ≡ j * c + c =
      rw (length-append, length-take-le (j * c) out (omega (arith, within_out)), kept, part_length) in
      let tf = take_at front back (j * c + c) lf in
      let df = drop_at front back (j * c + c) lf in
      rw (part_width, ← append_assoc)
      (record {
        within = omega arith;
        long = rw (length-append, lf, length-drop, length-drop) (omega (arith, r.long, within_out));
        rest = rw (m, df, r.rest) (drop-drop c (j * c) out₀);
        same = r.same ∙ rw (m, tf, df, add-one, drop-cons items j d (omega arith), ← (rw part_width at is), append_assoc);
      })

pub worked_done : {A : Type 0} {g : A → List ℕ → List ℕ} {c n : ℕ} {items : List A} {out₀ out : List ℕ} {j : ℕ} →
    Worked g c n items out₀ out j → n ≤ j → length items ≡ n → out ≡ per_run g c items out₀
unfolding per_run
worked_done {c} {items} {out} {j} r h all = sym (r.same ∙ rw (drop_of_length-le items {i = j} (omega arith)) (take-append-drop (j * c) out))

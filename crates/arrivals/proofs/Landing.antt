-- Arrivals that are added to a run where they land: place by place in a part of it, and part by part in the run.
use Rattle.std.proofs.Common.{ℕ, ◌+◌, ◌≤◌, ◌<◌, arith, ◌≡◌, refl, ap, sym, ◌∙◌, List, [], ◌∷◌, ◌++◌, length, set, get_or, take, drop}
use Rattle.std.proofs.Common.{add-one, drop-cons, drop_of_length-le, length-append, append_assoc, append-nil}
use Rattle.std.proofs.lemmas.List.{nil_from_length, take-append-drop, length-take-le, length-drop}
use Rattle.signal.specs.Landing.{added, onto}
use Rattle.signal.proofs.Parts.{onto_next, onto_clear, Parted, parted_length, added_parts}
use Rattle.arrivals.specs.Arrivals.{LandsFit}

-- the parts of i arrivals stand in their places, `now` has those of the arrivals left and of any that come later
pub record Laying (before now : List ℕ → List ℕ) (arrived run₀ run : List ℕ) (i : ℕ) : Type 0 where
  pub gone : List ℕ
  pub count : length gone ≡ i
  pub same : (later : List ℕ) → before (arrived ++ later) ≡ gone ++ now (drop i arrived ++ later)
  pub laid : run ≡ onto gone run₀

pub laying_start : (before : List ℕ → List ℕ) (arrived run : List ℕ) → Laying before before arrived run run 0
unfolding onto
laying_start before arrived run = record { gone = []; count = refl; same = λ later. refl; laid = refl }

module _ {before now : List ℕ → List ℕ} {arrived run₀ run : List ℕ} {i : ℕ} (r : Laying before now arrived run₀ run i) where
  -- nothing was added to the next place yet
  pub place_clear : get_or run i 0 ≡ get_or run₀ i 0
  place_clear = rw (r.laid, ← r.count) (onto_clear r.gone run₀)

  pub laying_turn : i < length arrived → length arrived ≤ length run₀ → {next : List ℕ → List ℕ} {p : ℕ} →
      ((rest : List ℕ) → now (get_or arrived i 0 ∷ rest) ≡ p ∷ next rest) →
      Laying before next arrived run₀ (set run i (get_or run i 0 + p)) (i + 1)
  laying_turn more fits {next} {p} part =
      record {
        gone = r.gone ++ (p ∷ []);
        count = length-append r.gone (p ∷ []) ∙ ap (λ (n : ℕ). n + 1) r.count;
        same = λ later.
            let e : drop i arrived ++ later ≡ get_or arrived i 0 ∷ (drop (i + 1) arrived ++ later) = rw (drop-cons arrived i 0 more, add-one i) in
            r.same later ∙ ap (λ (l : List ℕ). r.gone ++ l) (ap now e ∙ part (drop (i + 1) arrived ++ later))
            ∙ sym (append_assoc r.gone (p ∷ []) (next (drop (i + 1) arrived ++ later)));
        laid = rw (r.laid, ← r.count) (sym (onto_next r.gone run₀ p (omega (arith, r.count))));
      }

  -- none left
  module _ (done : length arrived ≤ i) (long : (l : List ℕ) → length (now l) ≡ length l) where
    none : now [] ≡ []
    none = nil_from_length (now []) (long [])

    whole : (later : List ℕ) → before (arrived ++ later) ≡ r.gone ++ now later
    whole later = r.same later ∙ rw (drop_of_length-le arrived done)

    all : before arrived ≡ r.gone
    all = ap before (sym (append-nil arrived)) ∙ whole [] ∙ rw none (append-nil r.gone)

    pub all_laid : run ≡ onto (before arrived) run₀
    all_laid = r.laid ∙ sym (ap (λ (l : List ℕ). onto l run₀) all)

    pub to_come : (later : List ℕ) → before (arrived ++ later) ≡ before arrived ++ now later
    to_come later = whole later ∙ ap (λ (l : List ℕ). l ++ now later) (sym all)

-- a run's two parts: the first arrivals are as many as the part ahead, `now` has the parts of the rest
module _ {arrived run again ahead first rest : List ℕ} {t : ℕ} (fits : LandsFit t arrived run) (parted : Parted t run again ahead)
    (begins : first ≡ take (length ahead) arrived) (ends : rest ≡ drop (length ahead) arrived) where
  first_long : length first ≡ length ahead
  first_long = rw begins (length-take-le (length ahead) arrived (omega (arith, fits.long, parted_length parted)))

  rest_long : length rest ≡ length again
  rest_long = omega (arith, fits.long, parted_length parted, ap length ends, length-drop (length ahead) arrived)

  pub landed_parts : (before now : List ℕ → List ℕ) → ((l : List ℕ) → length (before l) ≡ length l) → ((l : List ℕ) → length (now l) ≡ length l) →
      ((later : List ℕ) → before (first ++ later) ≡ before first ++ now later) →
      onto (now rest) again ++ onto (before first) ahead ≡ added (length run) t 1 (before arrived) run
  landed_parts before now long long' to_come =
      let all : arrived ≡ first ++ rest = sym (rw (begins, ends) (take-append-drop (length ahead) arrived)) in
      sym (ap (λ (l : List ℕ). added (length run) t 1 l run) (ap before all ∙ to_come rest)
      ∙ added_parts parted (before first) (now rest)
      (omega (arith, long first, first_long)) (omega (arith, long' rest, rest_long)) (λ more. long first ∙ first_long))

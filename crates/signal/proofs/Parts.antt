-- The two parts of a cycle's run that steps counted on from a post take: those up to the cycle's end, then those from step 1.
use Rattle.std.specs.Prelude.{ℕ, suc, ◌+◌, ◌-◌, ◌*◌, ◌≤◌, ◌<◌, ◌≡◌, refl, List, [], ◌∷◌, ◌++◌, min, map, length, set, get_or, take, drop}
use Rattle.std.proofs.Common.{arith, ap, sym, ◌∙◌, length-append, append_assoc}
use Rattle.std.proofs.Math.Seq.{set-append_seam, get_or-append_seam}
use Rattle.std.proofs.lemmas.List.{get_or-append-add, get_or_append_left, get_or-take, length-take-le, take-append-drop}
use Rattle.lists.specs.Lists.{tab, tab_append, tab_is, map_tab, number_at}
use Rattle.signal.specs.declared.Green.{Green}
use Rattle.signal.specs.Turn.{turn}
use Rattle.signal.proofs.Turn.{turn_pos, place_lt, turn_same, turn_cycle, turn_on}
use Rattle.signal.specs.Greens.{GreenFits, green_step, green_steps}
use Rattle.signal.specs.Landing.{added, onto}

-- onto a list that is long enough, what stands behind stays
onto_front : (ps run behind : List ℕ) → length ps ≤ length run → onto ps (run ++ behind) ≡ onto ps run ++ behind
unfolding onto
onto_front [] run behind h = refl
onto_front (p ∷ ps) [] behind h = absurd (omega arith)
onto_front (p ∷ ps) (x ∷ run) behind h = ap (λ (l : List ℕ). (x + p) ∷ l) (onto_front ps run behind (omega arith))

-- one number more, in its place
pub onto_next : (ps run : List ℕ) (p : ℕ) → length ps < length run →
    onto (ps ++ (p ∷ [])) run ≡ set (onto ps run) (length ps) (get_or (onto ps run) (length ps) 0 + p)
unfolding onto
onto_next [] [] p h = absurd (omega arith)
onto_next [] (x ∷ run) p h = refl
onto_next (q ∷ ps) [] p h = absurd (omega arith)
onto_next (q ∷ ps) (x ∷ run) p h = ap (λ (l : List ℕ). (x + q) ∷ l) (onto_next ps run p (omega arith))

-- where none was added yet, what stood there
pub onto_clear : (ps run : List ℕ) → get_or (onto ps run) (length ps) 0 ≡ get_or run (length ps) 0
unfolding onto
onto_clear [] run = refl
onto_clear (q ∷ ps) [] = refl
onto_clear (q ∷ ps) (x ∷ run) = onto_clear ps run

-- onto zeros they are themselves
pub onto_zeros : (ps run : List ℕ) → ((k : ℕ) → get_or run k 0 ≡ 0) → length ps ≤ length run → onto ps run ≡ ps ++ drop (length ps) run
unfolding onto
onto_zeros [] run zeros h = refl
onto_zeros (p ∷ ps) [] zeros h = absurd (omega arith)
onto_zeros (p ∷ ps) (x ∷ run) zeros h =
    let e : x + p ≡ p = omega (arith, zeros 0) in
    rw (e, onto_zeros ps run (λ k. zeros (suc k)) (omega arith))

-- numbers one list after the other
added_append : (c t i : ℕ) (ps qs run : List ℕ) → added c t i (ps ++ qs) run ≡ added c t (i + length ps) qs (added c t i ps run)
unfolding added
added_append c t i [] qs run = let e : i + 0 ≡ i = omega arith in rw e
added_append c t i (p ∷ ps) qs run =
    let e : i + suc (length ps) ≡ suc i + length ps = omega arith in
    rw e (added_append c t (suc i) ps qs (set run (turn c (i + t) - 1) (get_or run (turn c (i + t) - 1) 0 + p)))

-- where steps follow each other from a place on, numbers are added place by place
straight : (c t i : ℕ) (ps before run : List ℕ) → ((k : ℕ) → k < length ps → turn c (i + k + t) ≡ length before + 1 + k) → length ps ≤ length run →
    added c t i ps (before ++ run) ≡ before ++ onto ps run
unfolding added onto
straight c t i [] before run at h = refl
straight c t i (p ∷ ps) before [] at h = absurd (omega arith)
straight c t i (p ∷ ps) before (x ∷ run) at h =
    let z : i + 0 + t ≡ i + t = omega arith in
    let first : turn c (i + 0 + t) ≡ length before + 1 + 0 = at 0 (omega arith) in
    let here : turn c (i + t) - 1 ≡ length before = omega (arith, ap (turn c) z, first) in
    let one : before ++ ((x + p) ∷ run) ≡ (before ++ ((x + p) ∷ [])) ++ run = sym (append_assoc before ((x + p) ∷ []) run) in
    let more : length (before ++ ((x + p) ∷ [])) ≡ length before + 1 = length-append before ((x + p) ∷ []) in
    rw (here, get_or-append_seam, set-append_seam, one)
    (straight c t (suc i) ps (before ++ ((x + p) ∷ [])) run
    (λ k hk. let e : suc i + k + t ≡ i + suc k + t = omega arith in let n = at (suc k) (omega arith) in rw (e, more) (omega (arith, n))) (omega arith)
    ∙ append_assoc before ((x + p) ∷ []) (onto ps run))

-- `ahead` begins with the step after post t and ends the run, `again` stands before it
pub record Parted (t : ℕ) (run again ahead : List ℕ) : Type 0 where
  pub some : 0 < length run
  pub place : length again ≡ turn (length run) (t + 1) - 1
  pub whole : again ++ ahead ≡ run

-- a run parted at the place of the step after post t
pub parted_at : {run again ahead : List ℕ} {t place : ℕ} → 0 < length run → place ≡ turn (length run) (t + 1) - 1 →
    again ≡ take place run → ahead ≡ drop place run → Parted t run again ahead
parted_at {run} {t} {place} some is front back =
    let within = place_lt (length run) (t + 1) some in
    record {
      some = some;
      place = ap length front ∙ length-take-le place run (omega arith) ∙ is;
      whole = rw (front, back) (take-append-drop place run);
    }

module _ {t : ℕ} {run again ahead : List ℕ} (parted : Parted t run again ahead) where
  pub parted_length : length again + length ahead ≡ length run
  parted_length = sym (length-append again ahead) ∙ ap length parted.whole

  -- up to the cycle's end the steps follow each other from the place on
  ahead_turn : (k : ℕ) → k < length ahead → turn (length run) (t + 1 + k) ≡ length again + 1 + k
  ahead_turn k h =
      let c = length run in
      let low = turn_pos c (t + 1) in
      sym (turn_on c (t + 1) k (omega arith))
      ∙ turn_same c (turn c (t + 1) + k) (omega arith) (omega (arith, parted_length, parted.place)) ∙ omega (arith, parted.place)

  -- then from step 1
  again_turn : (k : ℕ) → k < length again → turn (length run) (t + 1 + (length ahead + k)) ≡ 1 + k
  again_turn k h =
      let c = length run in
      let low = turn_pos c (t + 1) in
      let e : turn c (t + 1) + (length ahead + k) ≡ 1 + k + c * 1 = omega (arith, parted_length, parted.place) in
      sym (turn_on c (t + 1) (length ahead + k) (omega arith))
      ∙ rw e (turn_cycle c (1 + k) 1 (omega arith) ∙ turn_same c (1 + k) (omega arith) (omega (arith, parted_length)))

  -- numbers that land t steps after their own: the first as far as the cycle's end, the others from step 1
  pub added_parts : (ps qs : List ℕ) → length ps ≤ length ahead → length qs ≤ length again → (0 < length qs → length ps ≡ length ahead) →
      added (length run) t 1 (ps ++ qs) run ≡ onto qs again ++ onto ps ahead
  added_parts ps qs front back full =
      let c = length run in
      added_append c t 1 ps qs run
      ∙ ap (added c t (1 + length ps) qs)
      (ap (added c t 1 ps) (sym parted.whole)
      ∙ straight c t 1 ps again ahead (λ k h. let e : 1 + k + t ≡ t + 1 + k = omega arith in rw e (ahead_turn k (omega arith))) front)
      ∙ straight c t (1 + length ps) qs [] (again ++ onto ps ahead)
      (λ k h.
      let e : 1 + length ps + k + t ≡ t + 1 + (length ahead + k) = omega (arith, full (omega arith)) in
      rw e (again_turn k (omega arith)))
      (omega (arith, length-append again (onto ps ahead)))
      ∙ onto_front qs again (onto ps ahead) back

  number_ahead : (k : ℕ) → k < length ahead → number_at run (turn (length run) (t + 1 + k)) ≡ get_or ahead k 0
  number_ahead k h =
      let at : length again + 1 + k - 1 ≡ length again + k = omega arith in
      rw (ahead_turn k h, ← parted.whole, at) (get_or-append-add again ahead k 0)

  number_again : (k : ℕ) → k < length again → number_at run (turn (length run) (t + 1 + (length ahead + k))) ≡ get_or again k 0
  number_again k h =
      let at : 1 + k - 1 ≡ k = omega arith in
      rw (again_turn k h, ← parted.whole, at) (get_or_append_left again ahead 0 k h)

-- a list's first numbers, tabled
walked : (f : ℕ → ℕ) (i n : ℕ) (part : List ℕ) → n ≤ length part → ((k : ℕ) → k < n → f (i + k) ≡ get_or part k 0) → tab f i n ≡ take n part
walked f i n part h same = sym (tab_is f i n (take n part) (length-take-le n part h) (λ k hk. get_or-take n part k 0 hk ∙ sym (same k hk)))

-- a green's steps in the two parts: so many as the first has places for them, then the others
module _ {green : Green} {run again ahead : List ℕ} {first : ℕ} (fits : GreenFits (length run) green)
    (parted : Parted green.start.0 run again ahead) (most : first ≡ min green.steps (length ahead)) where
  pub rest_fits : green.steps - first ≤ length again
  rest_fits = omega (arith, parted_length parted, fits.steps, most)

  pub ahead_full : 0 < green.steps - first → first ≡ length ahead
  ahead_full more = omega (arith, most)

  pub green_numbers : map (number_at run) (green_steps (length run) green) ≡ take first ahead ++ take (green.steps - first) again
  unfolding green_steps green_step
  green_numbers =
      let b = green.start.0 in
      let n = green.steps - first in
      let f : ℕ → ℕ = λ k. number_at run (turn (length run) (b + k)) in
      let all : green.steps ≡ first + n = omega (arith, most) in
      map_tab (number_at run) (λ k. turn (length run) (b + k)) 1 green.steps
      ∙ ap (tab f 1) all
      ∙ tab_append f 1 first n
      ∙ rw (
        walked f 1 first ahead (omega (arith, most)) (λ k h.
            let e : b + (1 + k) ≡ b + 1 + k = omega arith in
            rw e (number_ahead parted k (omega (arith, most)))),
        walked f (1 + first) n again rest_fits (λ k h.
            let e : b + (1 + first + k) ≡ b + 1 + (length ahead + k) = omega (arith, ahead_full (omega arith)) in
            rw e (number_again parted k (omega (arith, rest_fits)))),
      )

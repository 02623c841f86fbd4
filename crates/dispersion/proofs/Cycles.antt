-- The loop over the cycles: what they leave by turns, at rest too, and its invariant, that it holds at first and that a turn keeps it.
use Rattle.std.proofs.Common.{ℕ, zero, suc, ◌+◌, ◌%◌, ◌≤◌, ◌<◌, add-one, arith, eqb, ◌≡◌, refl, ap, sym, ◌∙◌, List, length}
use Rattle.std.proofs.Math.Nat.{le_dest}
use Rattle.dispersion.specs.declared.PlatoonState.{PlatoonState}
use Rattle.dispersion.specs.declared.Turns.{Turns}
use Rattle.dispersion.specs.declared.Turns.TheVariants.{One, Two}
use Rattle.dispersion.specs.Dispersion.{divisor_of, empty_state, state_after, repeated, held, cycle_written}
use Rattle.dispersion.specs.Dispersion.{Work, work, into_first, cycle_worked, cycles_worked}
use Rattle.dispersion.specs.Turns.{others_of, turn_worked, turns_worked}
use Rattle.dispersion.specs.Arrivals.{divisor_pos, state_append, state_carry}
use Rattle.dispersion.specs.Cycles.{end_of, end_next, reported_is, either_state, cycle_over}
use Rattle.dispersion.specs.Rest.{AtRest, needed_of, rest_end, rest_same, rest_skips}
use Rattle.dispersion.proofs.Needed.{Enough, next_needed}

-- ---- what the cycles leave

-- with one other profile they alternate
pub two_left : (running : ℕ) (q : List ℕ) (n : ℕ) (f g : List ℕ) → turns_worked running q 1 n f g ≡ cycles_worked running q n f g
unfolding turns_worked cycles_worked
two_left running q zero f g = refl
two_left running q (suc k) f g = ap (cycle_worked running q k) (two_left running q k f g)

-- with none each goes into the first
turn_alone : (running : ℕ) (q : List ℕ) (k : ℕ) (w : Work) → turn_worked running q 0 k w ≡ into_first running q w
turn_alone running q k w = let z : k % (0 + 1) ≡ 0 = omega arith in rw z

pub alone_left : (running : ℕ) (q : List ℕ) (k : ℕ) (f g : List ℕ)
    → turns_worked running q 0 (suc k) f g ≡ work (end_of running q (suc k)) (held running q (suc k) f) g
unfolding turns_worked cycle_written state_after repeated
alone_left running q zero f g = rw (reported_is running q 0, state_append)
alone_left running q (suc k) f g =
    turn_alone running q (suc k) (turns_worked running q 0 (suc k) f g)
    ∙ ap (into_first running q) (alone_left running q k f g)
    ∙ rw (end_next running q (suc k), cycle_over running q (suc k) k f)

-- so the first then holds the last of them
pub alone_done : (running : ℕ) (q : List ℕ) (n : ℕ) (f g : List ℕ) → 0 < n → {s : PlatoonState} {f' g' : List ℕ}
    → work s f' g' ≡ turns_worked running q 0 n f g → f' ≡ held running q n f
alone_done running q zero f g some e = absurd (omega arith)
alone_done running q (suc k) f g some e = ap (λ (w : Work). w.first) (e ∙ alone_left running q k f g)

-- the state runs on, whichever they go to
turn_state : (running : ℕ) (q : List ℕ) (others k : ℕ) (w : Work) → (turn_worked running q others k w).state ≡ state_after running q w.state
turn_state running q others k w = either_state running q w (eqb (k % (others + 1)) 0)

turns_state : (running : ℕ) (q : List ℕ) (others k : ℕ) (f g : List ℕ) → (turns_worked running q others k f g).state ≡ end_of running q k
unfolding turns_worked repeated state_after
turns_state running q others zero f g = refl
turns_state running q others (suc k) f g =
    turn_state running q others k (turns_worked running q others k f g)
    ∙ ap (state_after running q) (turns_state running q others k f g)
    ∙ sym (end_next running q k)

-- where the segment rests in cycle k + 1, any number of cycles from there on leaves the same, with one more where there is another profile
module _ (running : ℕ) (q : List ℕ) (k : ℕ) (h : AtRest running q (end_of running q k)) (n : ℕ) (f g : List ℕ) where
  alone_rests : suc k ≤ n → turns_worked running q 0 (suc k) f g ≡ turns_worked running q 0 n f g
  alone_rests more = go (le_dest more)
    where
      go : (j : ℕ) × (suc k + j ≡ n) → turns_worked running q 0 (suc k) f g ≡ turns_worked running q 0 n f g
      go (j, e) =
          let all : n ≡ suc (k + j) = omega arith in
          let one : suc k ≡ k + 1 = omega arith in
          let next : suc (k + j) ≡ k + suc j = omega arith in
          let ends : end_of running q (suc k) ≡ end_of running q (suc (k + j)) = rw (one, next, rest_end running q k h 1, rest_end running q k h (suc j)) in
          let same : work (end_of running q (suc k)) (held running q (suc k) f) g ≡ work (end_of running q (suc (k + j))) (held running q (suc (k + j)) f) g =
          rw (ends, rest_same running q k h (suc (k + j)) (omega arith)) in
          rw all (alone_left running q k f g ∙ same ∙ sym (alone_left running q (k + j) f g))

  two_rest : suc (suc k) ≤ n → turns_worked running q 1 (suc (suc k)) f g ≡ turns_worked running q 1 n f g
  two_rest more = two_left running q (suc (suc k)) f g ∙ rest_skips running q k h n f g more ∙ sym (two_left running q n f g)

  turns_rest : (turns : Turns) → k + 1 + others_of turns ≤ n
      → turns_worked running q (others_of turns) (k + 1 + others_of turns) f g ≡ turns_worked running q (others_of turns) n f g
  turns_rest One more = let e : k + 1 + 0 ≡ suc k = omega arith in rw e (alone_rests (omega arith))
  turns_rest Two more = let e : k + 1 + 1 ≡ suc (suc k) = omega arith in rw e (two_rest (omega arith))

-- ---- k cycles are worked, and those that need working leave what all n do

pub record Turning (running : ℕ) (q : List ℕ) (turns : Turns) (n : ℕ) (f₀ g₀ f g : List ℕ) (s : PlatoonState) (needed k : ℕ) : Type 0 where
  pub within : k ≤ needed
  pub no_more : needed ≤ n
  pub carried : s.carry < divisor_of running
  pub long_first : length f ≡ length f₀
  pub long_second : length g ≡ length g₀
  pub are : work s f g ≡ turns_worked running q (others_of turns) k f₀ g₀
  pub enough : turns_worked running q (others_of turns) needed f₀ g₀ ≡ turns_worked running q (others_of turns) n f₀ g₀

pub turning_start : (running : ℕ) (q : List ℕ) (turns : Turns) (n : ℕ) (f g : List ℕ) → Turning running q turns n f g f g empty_state n 0
unfolding turns_worked
turning_start running q turns n f g =
    record {
      within = omega arith;
      no_more = omega arith;
      carried = divisor_pos running;
      long_first = refl;
      long_second = refl;
      are = refl;
      enough = refl;
    }

-- a turn: cycle k + 1 from s to t, and how many are needed then
module _ {running : ℕ} {q : List ℕ} {turns : Turns} {n : ℕ} {f₀ g₀ f g : List ℕ} {s : PlatoonState} {needed k : ℕ}
    (r : Turning running q turns n f₀ g₀ f g s needed k) (more : k < needed)
    (t : PlatoonState) (f' g' : List ℕ) (needed' : ℕ)
    (e : work t f' g' ≡ turn_worked running q (others_of turns) k (work s f g)) (e' : needed' ≡ needed_of (k + 1) (others_of turns) needed s t) where
  next_state : t ≡ state_after running q s
  next_state = ap (λ (w : Work). w.state) e ∙ turn_state running q (others_of turns) k (work s f g)

  rests : s ≡ t → AtRest running q (end_of running q k)
  rests same =
      let is : s ≡ end_of running q k = ap (λ (w : Work). w.state) r.are ∙ turns_state running q (others_of turns) k f₀ g₀ in
      rw (← is) (sym (same ∙ next_state))

  turn_needed : Enough (λ m. turns_worked running q (others_of turns) m f₀ g₀) n needed k needed'
  turn_needed =
      next_needed (λ m. turns_worked running q (others_of turns) m f₀ g₀) turns more r.enough
      (λ same less. turns_rest running q k (rests same) needed f₀ g₀ turns less)
      e'

  pub turn : length f' ≡ length f → length g' ≡ length g → Turning running q turns n f₀ g₀ f' g' t needed' (k + 1)
  unfolding turns_worked
  turn lf lg =
      record {
        within = turn_needed.some;
        no_more = omega (arith, turn_needed.fewer, r.no_more);
        carried = rw next_state (state_carry running q s r.carried);
        long_first = lf ∙ r.long_first;
        long_second = lg ∙ r.long_second;
        are = rw (add-one, ← r.are) e;
        enough = turn_needed.enough;
      }

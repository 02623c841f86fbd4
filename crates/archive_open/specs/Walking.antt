-- One walk over an archive's records, from place 0 on, whatever is done at each of them: each record has so many bytes, its title's
-- length and its title, and the next one starts after it.
use Rattle.std.specs.Prelude.{ℕ, suc, ◌+◌, ◌-◌, ◌≤◌, ◌<◌, true, ◌≡◌, List, length}
use Rattle.std.proofs.Common.{arith}
use Rattle.archive_format.specs.declared.Edition.{Edition}
use Rattle.archive_format.specs.Archive.{next_at, runs}
use Rattle.archive_format.specs.Reading.{Ran, ran}
use Rattle.archive_open.specs.declared.Archive.{Archive}
use Rattle.archive_open.specs.Opened.{Held, holds, held_run, held_fits}

-- so many records are left from a place on, and run to the trailer
pub record Walk (size : ℕ) (l : List ℕ) (left place : ℕ) : Type 0 where
  pub trailer : ℕ
  pub mark : ℕ
  pub within : trailer ≤ length l
  pub run : runs size left l trailer place mark ≡ true

-- what reads is walked from its first record
pub held_walk : (e : Edition) (l : List ℕ) {count t last : ℕ} → Held e l count t last → Walk e.size l count 0
held_walk e l {count} {t} h = record { trailer = t; mark = t; within = omega (arith, held_fits e l h); run = held_run e l h }

pub walk : (a : Archive) → Walk a.sized.edition.size a.bytes.now a.count 0
walk a = held_walk a.sized.edition a.bytes.now (holds a)

module _ {size : ℕ} {l : List ℕ} {left place : ℕ} (w : Walk size l left place) where
  first : (k : ℕ) → left ≡ suc k → Ran size k l w.trailer place w.mark
  first k e = ran (rw e at w.run)

  -- the record and its title lie in the archive
  pub walk_fits : 0 < left → next_at size l place ≤ length l
  walk_fits more = omega (arith, (first (left - 1) (omega arith)).within, w.within)

  -- the next record starts after the title, and one fewer is left
  pub walk_on : (k : ℕ) → left ≡ suc k → {next : ℕ} → next ≡ next_at size l place → Walk size l k next
  walk_on k e same = record { trailer = w.trailer; mark = w.mark + 2; within = w.within; run = rw same (first k e).on }

-- The lines that the program prints. Paper 01's words stand in them: card for a segment record, drawer for an archive, shift for the
-- platoon arrival time, l, t, r and a for the exits.
use Rattle.std.specs.Prelude.{ℕ, List, ◌∷◌, ◌++◌}
use Prim.Native.Char.{code}
use Rattle.text.specs.Text.{field}
use Rattle.exit_figures.specs.declared.ExitFigures.{ExitFigures}
use Rattle.text.specs.Words.{bytes, newline}

-- ---- the words

abbrev pub record_label : List ℕ
record_label = bytes "card "

abbrev pub cycle_label : List ℕ
cycle_label = bytes " cycle "

abbrev pub shift_label : List ℕ
shift_label = bytes " shift "

abbrev pub rounds_label : List ℕ
rounds_label = bytes " rounds "

abbrev pub exit_label : ℕ → List ℕ
exit_label letter = bytes "exit " ++ letter ∷ bytes " total "

abbrev pub green_label : List ℕ
green_label = bytes " green "

abbrev pub permille_label : List ℕ
permille_label = bytes " permille "

abbrev pub blocked_label : List ℕ
blocked_label = bytes "blocked "

abbrev pub of_label : List ℕ
of_label = bytes " of "

abbrev pub refused_label : List ℕ
refused_label = bytes " refused "

abbrev pub archive_label : List ℕ
archive_label = bytes "drawer refused "

abbrev pub letter_l : ℕ
letter_l = code "l"

abbrev pub letter_t : ℕ
letter_t = code "t"

abbrev pub letter_r : ℕ
letter_r = code "r"

abbrev pub letter_a : ℕ
letter_a = code "a"

-- ---- lines without their end, which the exam sheet has too

-- card 1 cycle 60 shift 34 rounds 1
unfoldable pub record_words : (number cycle arrival rounds : ℕ) → List ℕ
record_words number cycle arrival rounds = field record_label number ++ field cycle_label cycle ++ field shift_label arrival ++ field rounds_label rounds

-- exit t total 21600000 green 10800000 permille 500
unfoldable pub exit_words : List ℕ → ExitFigures → List ℕ
exit_words label f = field label f.total ++ field green_label f.green ++ field permille_label f.permille

-- card 1 refused 7
unfoldable pub refused_words : (number k : ℕ) → List ℕ
refused_words number k = field record_label number ++ field refused_label k

-- ---- the lines

unfoldable pub record_line : (number cycle arrival rounds : ℕ) → List ℕ
record_line number cycle arrival rounds = record_words number cycle arrival rounds ++ newline

unfoldable pub exit_line : List ℕ → ExitFigures → List ℕ
exit_line label f = exit_words label f ++ newline

unfoldable pub refused_line : (number k : ℕ) → List ℕ
refused_line number k = refused_words number k ++ newline

-- exit a total 0
unfoldable pub access_line : ℕ → List ℕ
access_line total = field (exit_label letter_a) total ++ newline

-- blocked 0 of 60
unfoldable pub blocked_line : (count cycle : ℕ) → List ℕ
blocked_line count cycle = field blocked_label count ++ field of_label cycle ++ newline

-- drawer refused 2
unfoldable pub archive_refused_line : ℕ → List ℕ
archive_refused_line k = field archive_label k ++ newline

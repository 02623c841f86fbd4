-- The lines of a refusal as paper 01 prints them, from the definitions.
use Rattle.std.specs.Prelude.{◌≡◌, refl}
use Rattle.text.specs.Text.{digits, field}
use Rattle.text.specs.Words.{bytes}
use Rattle.report_lines.specs.Lines.{refused_words, refused_line, archive_refused_line}

pub printed_refused : refused_line 1 7 ≡ bytes "card 1 refused 7\n"
unfolding refused_line refused_words field digits
printed_refused = refl

pub printed_archive : archive_refused_line 2 ≡ bytes "drawer refused 2\n"
unfolding archive_refused_line field digits
printed_archive = refl

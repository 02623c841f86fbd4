-- The lines of record 1 as paper 01 prints them, from the definitions.
use Rattle.std.specs.Prelude.{◌≡◌, refl, ◌++◌, Float, Ok}
use Rattle.text.specs.Text.{digits, field}
use Rattle.pair_flows.specs.declared.PairFlows.{PairFlows}
use Rattle.working_outcome.specs.declared.Working.{Working}
use Rattle.exit_figures.specs.declared.ExitFigures.{ExitFigures}
use Rattle.text.specs.Words.{bytes}
use Rattle.report_lines.specs.Lines.{record_words, exit_words, record_line, exit_line, access_line, blocked_line}
use Rattle.report_record.specs.Record.{worked_text, record_text}

-- an exit that nothing leaves by
abbrev no_figures : ExitFigures
no_figures = record { total = 0; green = 0; permille = 0 }

-- the figures of the paper's record 1, any pair flows and any last sum
abbrev example : PairFlows → Float → Working
example pairs sum =
    record {
      sum = sum;
      arrival = 34;
      rounds = 1;
      pairs = pairs;
      left = no_figures;
      through = record { total = 21600000; green = 10800000; permille = 500 };
      right = no_figures;
      access = 0;
      blocked = 0;
    }

-- its six lines
pub printed : (pairs : PairFlows) (sum : Float) → record_text 1 60 (Ok (example pairs sum))
    ≡ bytes "card 1 cycle 60 shift 34 rounds 1\n"
    ++ bytes "exit l total 0 green 0 permille 0\n"
    ++ bytes "exit t total 21600000 green 10800000 permille 500\n"
    ++ bytes "exit r total 0 green 0 permille 0\n"
    ++ bytes "exit a total 0\n"
    ++ bytes "blocked 0 of 60\n"
unfolding record_text worked_text record_line record_words exit_line exit_words access_line blocked_line field digits
printed pairs sum = refl

-- What a program does with a reader and a writer of known bytes.
use Rattle.std.specs.Prelude.{ℕ, ◌≤◌, List, length, Option}
use Rattle.std.specs.Io.KnownBytes.{Appends, Consumes, IsAtEnd}
use Rattle.report.specs.declared.Form.{Form}
use Rattle.report.specs.Report.{input_limit, input_text}

-- some input was read, all that there was unless it is longer than what is taken, and its whole text was appended
pub record Prints (form : Form) (left left' held held' : Option (List ℕ)) : Type 0 where
  pub input : List ℕ
  pub read : Consumes left left' input
  pub whole : length input ≤ input_limit → IsAtEnd left'
  pub written : Appends held held' (input_text form input)

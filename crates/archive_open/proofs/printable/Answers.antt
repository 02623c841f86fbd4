-- One byte more is good, or not; behind the last one, that is said of all.
use Rattle.std.proofs.Common.{rules, refl, take_all}
use Rattle.std.proofs.lemmas.List.Folds.{list_all_more}
use Rattle.archive_format.specs.Archive.{printable}
use Rattle.archive_open.proofs.printable.Goals as goal

pub loop-b-init : goal.loop-b-init
loop-b-init c = refl

pub loop-b-preserved : goal.loop-b-preserved
loop-b-preserved c = search (rules, list_all_more printable)

pub returns : goal.returns
returns c = search (rules, take_all)

-- Invariant: the text so far and that of the records left are the whole.
use Rattle.report.proofs.Records.{Reporting}
use Rattle.report.proofs.archive.records_text.Given as goal

abbrev pub invariant-loop-bytes : goal.invariant-loop-bytes
invariant-loop-bytes l = Reporting l.form l.archive.bytes.now l.archive.count l.fn.text l.text l.bytes-iterator

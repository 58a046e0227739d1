use Rattle.std.proofs.Common.{◌≡◌, length}
use Rattle.text.specs.Readers.{lines_ahead, left}
use Rattle.text.proofs.reader.Reader.skip_remarks.Given as goal

abbrev pub invariant-loop : goal.invariant-loop
invariant-loop l = left l.self ≡ left l.initial.self

abbrev pub decreases-loop : goal.decreases-loop
decreases-loop l = length (lines_ahead l.self)

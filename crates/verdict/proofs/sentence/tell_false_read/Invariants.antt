use Rattle.std.proofs.Common.{length}
use Rattle.text.specs.Traces.{course_of}
use Rattle.verdict.proofs.sentence.tell_false_read.Given as goal

abbrev pub decreases-loop-placed : goal.decreases-loop-placed
decreases-loop-placed l = length (course_of l.trace).steps

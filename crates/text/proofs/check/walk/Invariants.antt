use Rattle.std.proofs.Common.{◌≡◌, length}
use Rattle.text.specs.Course.{ending}
use Rattle.text.specs.Traces.{course_of}
use Rattle.text.proofs.check.walk.Given as goal

abbrev pub invariant-loop : goal.invariant-loop
invariant-loop l = ending (course_of l.trace) ≡ ending (course_of l.initial.trace)

abbrev pub decreases-loop : goal.decreases-loop
decreases-loop l = length (course_of l.trace).steps

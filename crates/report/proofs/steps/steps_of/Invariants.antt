use Rattle.std.proofs.Common.{◌≡◌, ◌++◌, length, vec_items}
use Rattle.text.specs.Traces.{course_of}
use Rattle.report.specs.Output.{steps_of}
use Rattle.report.proofs.steps.steps_of.Given as goal

-- with the steps that are still to come, those so far are all of them
abbrev pub invariant-loop-placed : goal.invariant-loop-placed
invariant-loop-placed l = vec_items l.steps ++ steps_of (course_of l.trace).steps ≡ steps_of (course_of l.initial.trace).steps

abbrev pub decreases-loop-placed : goal.decreases-loop-placed
decreases-loop-placed l = length (course_of l.trace).steps

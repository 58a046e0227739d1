use Rattle.std.proofs.Common.{◌≡◌, length}
use Rattle.text.specs.Traces.{course_of}
use Rattle.station.specs.Verdicts.{end_of, judged_to}
use Rattle.station.proofs.steps.judge_steps.Given as goal

-- what is left of the steps has the verdict
abbrev pub invariant-loop-placed : goal.invariant-loop-placed
invariant-loop-placed l =
    judged_to (end_of (course_of l.trace).fault) l.hearing.boards l.hearing.words l.hearing.history (course_of l.trace).steps
    ≡ judged_to (end_of (course_of l.initial.trace).fault) l.initial.hearing.boards l.initial.hearing.words l.initial.hearing.history (course_of l.initial.trace).steps

abbrev pub decreases-loop-placed : goal.decreases-loop-placed
decreases-loop-placed l = length (course_of l.trace).steps

use Rattle.std.proofs.Common.{◌≡◌, ◌+◌, length, drop}
use Rattle.report.specs.Judged.{first_wrong}
use Rattle.report.proofs.judged.first_from.Given as goal

-- what is left of the steps has the answer
abbrev pub invariant-loop-i : goal.invariant-loop-i
invariant-loop-i l =
    first_wrong l.hearing.boards l.hearing.words (length l.yielded + 1) l.hearing.history (drop (length l.yielded) l.steps) (drop (length l.yielded) l.answers)
    ≡ first_wrong l.initial.hearing.boards l.initial.hearing.words 1 l.initial.hearing.history l.steps l.answers

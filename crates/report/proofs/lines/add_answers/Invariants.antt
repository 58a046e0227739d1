use Rattle.std.proofs.Common.{◌≡◌, ◌+◌, ◌++◌, drop, string_bytes}
use Rattle.text.specs.Printing.{text_of}
use Rattle.report.specs.Output.{answer_lines}
use Rattle.report.proofs.lines.add_answers.Given as goal

-- with the lines that are left, the text is the whole
abbrev pub invariant-loop-i : goal.invariant-loop-i
invariant-loop-i l = string_bytes l.out ++ text_of (answer_lines (l.i + 1) (drop l.i l.answers)) ≡ string_bytes l.initial.out ++ text_of (answer_lines 1 l.answers)

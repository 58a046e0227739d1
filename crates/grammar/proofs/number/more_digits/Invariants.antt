use Rattle.std.proofs.Common.{◌≡◌, length}
use Rattle.grammar.specs.Numbers.{digits}
use Rattle.grammar.proofs.number.more_digits.Given as goal

-- what the digits from here on give is what all of them give
abbrev pub invariant-loop-rest : goal.invariant-loop-rest
invariant-loop-rest l = digits l.n l.rest ≡ digits l.start l.s

abbrev pub decreases-loop-rest : goal.decreases-loop-rest
decreases-loop-rest l = length l.rest

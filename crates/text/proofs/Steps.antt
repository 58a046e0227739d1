-- A step is taken only where there is room for it.
use Rattle.std.proofs.Common.{◌≡◌, ℕ, ◌<◌, Some, None, Ok, Err, Option, Result, arith}
use Rattle.std.proofs.lemmas.Bool.Decides.{nat_tests}
use Rattle.model.specs.declared.refusal.Refusal.{Refusal}
use Rattle.grammar.specs.declared.kind.Kind.{Kind}
use Rattle.grammar.specs.declared.trace_step.TraceStep.{TraceStep}
use Rattle.grammar.specs.Numbers.{and_then}
use Rattle.grammar.specs.Pieces.{Piece}
use Rattle.grammar.specs.Steps.{room, step_in, step_said}
use Rattle.text.specs.Faults.{at_line}

pub room-left : (i : ℕ) (o : Option TraceStep) (s : TraceStep) → Ok s ≡ room i o → i < 2048
room-left i None s e = absurd cc
room-left i (Some t) s e = grind (arith, nat_tests)

pub step_room : (k : Kind) (i n : ℕ) (p : Option Piece) (r : Result TraceStep Refusal) (s : TraceStep) → Ok s ≡ at_line r n → r ≡ step_said k i p → i < 2048
step_room k i n p (Ok x) s o e = room-left i (and_then p (step_in k)) x e
step_room k i n p (Err r) s o e = absurd cc

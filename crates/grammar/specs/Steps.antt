-- What a step line says, by its letter and the rest.
use Rattle.std.specs.Prelude.{ℕ, cond, List, [], ◌∷◌, Some, None, Ok, Err, Option, Result, ◌==◌, nat_lt}
use Rattle.model.specs.declared.refusal.Refusal.{Refusal}
use Rattle.model.specs.declared.refusal.Refusal.TheVariants.{MalformedLine, TextTooLong}
use Rattle.model.specs.declared.step.Step.{Step}
use Rattle.model.specs.declared.step.Step.TheVariants.{Read, Write, Acquire, Release, WriteBack, Eject, Land}
use Rattle.grammar.specs.declared.kind.Kind.{Kind}
use Rattle.grammar.specs.declared.kind.Kind.TheVariants.{Run, Log}
use Rattle.grammar.specs.declared.trace_step.TraceStep.{TraceStep}
use Rattle.grammar.specs.declared.trace_step.TraceStep.TheVariants.{Plain, ReadWord}
use Rattle.grammar.specs.Numbers.{and_then, place_alone, place_word}
use Rattle.grammar.specs.Pieces.{Piece, step_parts}

-- board.cell
abbrev pub at : List ℕ → (ℕ → ℕ → Step) → Option TraceStep
at s f = and_then (place_alone s) (λ p. Some (Plain (f p.0 p.1)))

-- board.cell.word
abbrev pub at_word : List ℕ → (ℕ → ℕ → ℕ → TraceStep) → Option TraceStep
at_word s f = and_then (place_word s) (λ p. Some (f p.0.0 p.0.1 p.1))

abbrev pub write_of : ℕ → ℕ → ℕ → TraceStep
write_of b c w = Plain (Write b c w)

-- in a log a read adds the word read
abbrev pub read_of : Kind → List ℕ → Option TraceStep
read_of Run s = at s Read
read_of Log s = at_word s ReadWord

-- a landing names nothing
abbrev pub land_of : List ℕ → Option TraceStep
land_of [] = Some (Plain Land)
land_of (c ∷ cs) = None

-- r, w, a, l, b, e and d
abbrev pub step_of : Kind → ℕ → List ℕ → Option TraceStep
step_of k c s =
    cond (c == 114) (read_of k s)
    (cond (c == 119) (at_word s write_of)
    (cond (c == 97) (at s Acquire)
    (cond (c == 108) (at s Release)
    (cond (c == 98) (at s WriteBack)
    (cond (c == 101) (at s Eject)
    (cond (c == 100) (land_of s) None))))))

-- the step that a line says, by its form
abbrev pub step_in : Kind → Piece → Option TraceStep
step_in k p = and_then (step_parts p) (λ q. step_of k q.0 q.1)

-- a step after i others, of which a trace has 2,048 at most
abbrev pub room : ℕ → Option TraceStep → Result TraceStep Refusal
room i (Some s) = cond (nat_lt i 2048) (Ok s) (Err TextTooLong)
room i None = Err MalformedLine

abbrev pub step_said : Kind → ℕ → Option Piece → Result TraceStep Refusal
step_said k i o = room i (and_then o (step_in k))

-- the step without the word that a log adds
abbrev pub plain_step : TraceStep → Step
plain_step (Plain s) = s
plain_step (ReadWord b c w) = Read b c

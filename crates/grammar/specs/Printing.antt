-- The lines of a trace as they are printed, without their byte 10.
use Rattle.std.specs.Prelude.{◌≡◌, ℕ, ◌≤◌, List, [], ◌∷◌, ◌++◌, codes, decimal}
use Rattle.model.specs.declared.step.Step.TheVariants.{Read, Write, Acquire, Release, WriteBack, Eject, Land}
use Rattle.grammar.specs.declared.kind.Kind.{Kind}
use Rattle.grammar.specs.declared.kind.Kind.TheVariants.{Run, Log}
use Rattle.grammar.specs.declared.trace_step.TraceStep.{TraceStep}
use Rattle.grammar.specs.declared.trace_step.TraceStep.TheVariants.{Plain, ReadWord}

abbrev pub kind_line : Kind → List ℕ
kind_line Run = codes "trace=run"
kind_line Log = codes "trace=log"

-- p is a header field's name and its equals sign
abbrev pub field_line : List ℕ → ℕ → List ℕ
field_line p n = p ++ decimal n

abbrev pub place_text : ℕ → ℕ → List ℕ
place_text b c = decimal b ++ 46 ∷ decimal c

abbrev pub word_text : ℕ → ℕ → ℕ → List ℕ
word_text b c w = decimal b ++ 46 ∷ (decimal c ++ 46 ∷ decimal w)

abbrev pub step_line : TraceStep → List ℕ
step_line (Plain (Read b c)) = 114 ∷ 61 ∷ place_text b c
step_line (Plain (Write b c w)) = 119 ∷ 61 ∷ word_text b c w
step_line (Plain (Acquire b c)) = 97 ∷ 61 ∷ place_text b c
step_line (Plain (Release b c)) = 108 ∷ 61 ∷ place_text b c
step_line (Plain (WriteBack b c)) = 98 ∷ 61 ∷ place_text b c
step_line (Plain (Eject b c)) = 101 ∷ 61 ∷ place_text b c
step_line (Plain Land) = 100 ∷ 61 ∷ []
step_line (ReadWord b c w) = 114 ∷ 61 ∷ word_text b c w

abbrev pub Word : ℕ → Type 0
Word n = n ≤ 4294967295

abbrev pub Words : ℕ → ℕ → Type 0
Words b c = Word b × Word c

-- a step that a trace of kind k can have: its numbers are words, and a read comes with a word in a log and only there
abbrev pub Writable : Kind → TraceStep → Type 0
Writable k (Plain (Read b c)) = (k ≡ Run) × Words b c
Writable k (Plain (Write b c w)) = Words b c × Word w
Writable k (Plain (Acquire b c)) = Words b c
Writable k (Plain (Release b c)) = Words b c
Writable k (Plain (WriteBack b c)) = Words b c
Writable k (Plain (Eject b c)) = Words b c
Writable k (Plain Land) = Unit {0}
Writable k (ReadWord b c w) = (k ≡ Log) × (Words b c × Word w)

-- A whole trace printed as text, with remarks put anywhere; and the law that reading gives it back.
use Rattle.std.specs.Prelude.{◌≡◌, ℕ, ◌+◌, ◌≤◌, false, cond, List, [], ◌∷◌, ◌++◌, map, length, drop, Ok, Err, codes, Result}
use Rattle.std.specs.List.{AllByRecursion}
use Rattle.grammar.specs.declared.kind.Kind.{Kind}
use Rattle.grammar.specs.declared.trace_step.TraceStep.{TraceStep}
use Rattle.grammar.specs.Pieces.{holds, piece, is_remark}
use Rattle.grammar.specs.Printing.{Word, Writable, kind_line, field_line, step_line}
use Rattle.text.specs.declared.fault.Fault.{Fault}
use Rattle.text.specs.declared.header.Header.{Header}
use Rattle.text.specs.Reading.{Trace, reading}

-- the lines of a trace of kind k
abbrev pub printed : Kind → Header → List TraceStep → List (List ℕ)
printed k h ss =
    kind_line k
    ∷ field_line (codes "boards=") h.boards
    ∷ field_line (codes "cells=") h.cells
    ∷ field_line (codes "entries=") h.entries
    ∷ field_line (codes "start=") h.start
    ∷ map step_line ss

-- ms are the lines ls with remarks put anywhere, before, between or after them
pub data Remarked : List (List ℕ) → List (List ℕ) → Type 0 where
  end : Remarked [] []
  line : {l : List ℕ} {ls ms : List (List ℕ)} → Remarked ls ms → Remarked (l ∷ ls) (l ∷ ms)
  remark : {ls ms : List (List ℕ)} (r : List ℕ) → holds 10 r ≡ false → Remarked ls ms → Remarked ls ((35 ∷ r) ∷ ms)

-- the text of some lines: a byte 10 ends each
abbrev pub text_of : List (List ℕ) → List ℕ
text_of [] = []
text_of (l ∷ ls) = l ++ 10 ∷ text_of ls

-- the numbers of the lines that are no remarks, where the first line has the number n
abbrev pub numbers : ℕ → List (List ℕ) → List ℕ
numbers n [] = []
numbers n (l ∷ ls) = cond (is_remark (piece l)) (numbers (n + 1) ls) (n ∷ numbers (n + 1) ls)

pub record InRange (h : Header) : Type 0 where
  pub boards : (1 ≤ h.boards) × (h.boards ≤ 8)
  pub cells : (1 ≤ h.cells) × (h.cells ≤ 64)
  pub entries : (1 ≤ h.entries) × (h.entries ≤ 8)
  pub start : Word h.start

-- a reading that gives the header h and the steps ss, at the lines ns
abbrev pub GivesBack : Header → List TraceStep → List ℕ → Result Trace Fault → Type 0
GivesBack h ss ns (Ok t) = (t.header ≡ h) × (map (λ p. p.step) t.steps ≡ ss) × (map (λ p. p.line) t.steps ≡ ns)
GivesBack h ss ns (Err f) = ⊥

-- printing any trace of at most 2,048 steps whose numbers are in range, with remarks put anywhere, and reading the text,
-- if it has at most 60,000 bytes, gives that trace back, each step at its line: the first five lines that are no remarks
-- are the header's
abbrev pub ReadsBack : Type 0
ReadsBack =
    (k : Kind) (h : Header) (ss : List TraceStep) (ms : List (List ℕ)) →
    InRange h → AllByRecursion (Writable k) ss → length ss ≤ 2048 → Remarked (printed k h ss) ms → length (text_of ms) ≤ 60000 →
    GivesBack h ss (drop 5 (numbers 1 ms)) (reading k (text_of ms))

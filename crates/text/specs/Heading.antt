-- The header of a trace: the line trace=, then boards=, cells=, entries= and start=.
use Rattle.std.specs.Prelude.{ℕ, List, replicate, Ok, Err, codes, Result}
use Rattle.grammar.specs.declared.kind.Kind.{Kind}
use Rattle.grammar.specs.Fields.{kind_said, number_said}
use Rattle.text.specs.declared.fault.Fault.{Fault}
use Rattle.text.specs.declared.header.Header.{Header}
use Rattle.text.specs.Telling.{Left, taken}

abbrev pub kind_line : Kind → Left → Result (Unit {0}) Fault × Left
kind_line k = taken (kind_said k)

abbrev pub number_line : List ℕ → ℕ → ℕ → Left → Result ℕ Fault × Left
number_line p low high = taken (number_said p low high)

-- the next line after one that was taken; the first fault goes first
abbrev pub and_next : {X Y : Type 0} → Result X Fault × Left → (X → Left → Result Y Fault × Left) → Result Y Fault × Left
and_next (Ok x, a) f = f x a
and_next (Err e, a) f = (Err e, a)

abbrev pub heading : Kind → Left → Result Header Fault × Left
heading k a =
    and_next (kind_line k a) (λ _ a₁.
    and_next (number_line (codes "boards=") 1 8 a₁) (λ boards a₂.
    and_next (number_line (codes "cells=") 1 64 a₂) (λ cells a₃.
    and_next (number_line (codes "entries=") 1 8 a₃) (λ entries a₄.
    and_next (number_line (codes "start=") 0 4294967295 a₄) (λ start a₅.
    (Ok (record { boards = boards; cells = cells; entries = entries; start = start }), a₅))))))

-- every cell starts with the same word
abbrev pub starting_words : Header → List ℕ
starting_words h = replicate h.cells h.start

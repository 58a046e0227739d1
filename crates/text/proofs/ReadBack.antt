-- A printed trace is read back, whatever remarks stand between its lines.
use Rattle.std.proofs.Common.{◌≡◌, ℕ, ◌+◌, ◌≤◌, true, false, ltb, List, [], ◌∷◌, ◌++◌, map, length, drop, Some, None, Ok, Err, codes, Option, Result, sym, refl, ap, ◌∙◌, subst, arith}
use Rattle.std.specs.List.{AllByRecursion}
use Rattle.std.proofs.lemmas.List.{length-drop, length-map}
use Rattle.std.proofs.lemmas.Bool.Decides.{nat_tests}
use Rattle.std.proofs.lemmas.Bool.{cond-false, le-ltb}
use Rattle.model.specs.declared.refusal.Refusal.{Refusal}
use Rattle.model.specs.declared.refusal.Refusal.TheVariants.{TextTooLong}
use Rattle.grammar.specs.declared.kind.Kind.{Kind}
use Rattle.grammar.specs.declared.kind.Kind.TheVariants.{Run, Log}
use Rattle.grammar.specs.declared.trace_step.TraceStep.{TraceStep}
use Rattle.grammar.specs.Fields.{wanted, kind_said, ranged, number_said}
use Rattle.grammar.specs.Pieces.{Piece, holds, piece, is_remark}
use Rattle.grammar.specs.Printing.{Writable, kind_line as kind_printed, field_line, step_line}
use Rattle.grammar.proofs.Prints.{named, step_back, kind-back, field_back, step-plain, kind-plain, field_plain, step-told, kind-told, field_told}
use Rattle.text.specs.declared.fault.Fault.{Fault}
use Rattle.text.specs.declared.header.Header.{Header}
use Rattle.text.specs.declared.placed_step.PlacedStep.{PlacedStep}
use Rattle.text.specs.Course.{course}
use Rattle.text.specs.Faults.{fault_at}
use Rattle.text.specs.Heading.{number_line, and_next, heading}
use Rattle.text.specs.Lines.{lines}
use Rattle.text.specs.Printing.{printed, Remarked, end, line, remark, text_of, numbers, InRange, GivesBack, ReadsBack}
use Rattle.text.specs.Reading.{opening, course_after, complete, reading}
use Rattle.text.specs.Telling.{Told, Left, told, left_from, answered, taken}

-- a text of lines has those lines

abbrev PlainLine : List ℕ → Type 0
PlainLine l = holds 10 l ≡ false

line-front : (l rest : List ℕ) → PlainLine l → lines (l ++ 10 ∷ rest) ≡ Some l ∷ lines rest
line-front [] rest h = refl
line-front (c ∷ l) rest h =
    let more = line-front l rest in
    grind (arith, nat_tests)

lines-back : (ms : List (List ℕ)) → AllByRecursion PlainLine ms → lines (text_of ms) ≡ map Some ms
lines-back [] h = refl
lines-back (l ∷ ms) h = line-front l (text_of ms) h.0 ∙ ap (λ ls. Some l ∷ ls) (lines-back ms h.1)

plain-remarked : {ls ms : List (List ℕ)} → Remarked ls ms → AllByRecursion PlainLine ls → AllByRecursion PlainLine ms
plain-remarked end h = tt
plain-remarked (line d) h = (h.0, plain-remarked d h.1)
plain-remarked (remark r p d) h = (p, plain-remarked d h)

-- what they tell is told by the lines that are no remarks, at their numbers

abbrev told_at : List ℕ → List (List ℕ) → List Told
told_at [] ls = []
told_at (n ∷ ns) [] = []
told_at (n ∷ ns) (l ∷ ls) = record { line = n; says = piece l } ∷ told_at ns ls

abbrev Telling : List ℕ → Type 0
Telling l = is_remark (piece l) ≡ false

told-remarked : {ls ms : List (List ℕ)} → Remarked ls ms → AllByRecursion Telling ls → (n : ℕ) → told n (map Some ms) ≡ told_at (numbers n ms) ls
told-remarked end h n = refl
told-remarked (line {l} {ls} {ms} d) h n =
    let more = told-remarked d h.1 (n + 1) in
    let here = h.0 in
    rw (here, more)
told-remarked (remark r p d) h n = told-remarked d h (n + 1)

numbers-length : {ls ms : List (List ℕ)} → Remarked ls ms → AllByRecursion Telling ls → (n : ℕ) → length (numbers n ms) ≡ length ls
numbers-length end h n = refl
numbers-length (line {l} {ls} {ms} d) h n = let here = h.0 in rw (here, numbers-length d h.1 (n + 1))
numbers-length (remark r p d) h n = numbers-length d h (n + 1)

-- the header

taken_back : {X : Type 0} (f : Option Piece → Result X Refusal) (x : X) (n : ℕ) (ns : List ℕ) (l : List ℕ) (ls : List (List ℕ)) (e : ℕ) → f (piece l) ≡ Ok x → taken f (record { telling = told_at (n ∷ ns) (l ∷ ls); end = e }) ≡ (Ok x, record { telling = told_at ns ls; end = e })
taken_back f x n ns l ls e h = ap (λ r. answered r (record { line = n; says = piece l }) (told_at ns ls) e) h

wanted-back : (k : Kind) → wanted k (Some k) ≡ Ok tt
wanted-back Run = refl
wanted-back Log = refl

kind-said : (k : Kind) → kind_said k (piece (kind_printed k)) ≡ Ok tt
kind-said k = ap (wanted k) (kind-back k) ∙ wanted-back k

ranged-back : (low high n : ℕ) → low ≤ n → n ≤ high → ranged low high (Some n) ≡ Ok n
ranged-back low high n l h = grind (arith, nat_tests)

number-back : (p : List ℕ) (low high x n : ℕ) (ns : List ℕ) (ls : List (List ℕ)) (e : ℕ) → named p ≡ true → (low ≤ x) × (x ≤ high) → high ≤ 4294967295 → number_line p low high (record { telling = told_at (n ∷ ns) (field_line p x ∷ ls); end = e }) ≡ (Ok x, record { telling = told_at ns ls; end = e })
number-back p low high x n ns ls e h within w =
    taken_back (number_said p low high) x n ns (field_line p x) ls e
    (rw (field_back p x h (omega (arith, within)), ranged-back low high x within.0 within.1))

-- the header from its lines boards=, cells=, entries= and start= on
abbrev from_start : ℕ → ℕ → ℕ → Left → Result Header Fault × Left
from_start boards cells entries a =
    and_next (number_line (codes "start=") 0 4294967295 a) (λ start a₅. (Ok (record { boards = boards; cells = cells; entries = entries; start = start }), a₅))

abbrev from_entries : ℕ → ℕ → Left → Result Header Fault × Left
from_entries boards cells a = and_next (number_line (codes "entries=") 1 8 a) (from_start boards cells)

abbrev from-cells : ℕ → Left → Result Header Fault × Left
from-cells boards a = and_next (number_line (codes "cells=") 1 64 a) (from_entries boards)

abbrev from-boards : Left → Result Header Fault × Left
from-boards a = and_next (number_line (codes "boards=") 1 8 a) from-cells

module _ (k : Kind) (h : Header) (ss : List TraceStep) (fits : InRange h) where
  heading-back : (ns : List ℕ) (e : ℕ) → length ns ≡ length (printed k h ss) → heading k (record { telling = told_at ns (printed k h ss); end = e }) ≡ (Ok h, record { telling = told_at (drop 5 ns) (map step_line ss); end = e })
  heading-back [] e q = absurd (omega arith)
  heading-back (n₁ ∷ []) e q = absurd (omega arith)
  heading-back (n₁ ∷ n₂ ∷ []) e q = absurd (omega arith)
  heading-back (n₁ ∷ n₂ ∷ n₃ ∷ []) e q = absurd (omega arith)
  heading-back (n₁ ∷ n₂ ∷ n₃ ∷ n₄ ∷ []) e q = absurd (omega arith)
  heading-back (n₁ ∷ n₂ ∷ n₃ ∷ n₄ ∷ n₅ ∷ ns) e q =
      let l₅ = map step_line ss in
      let l₄ = field_line (codes "start=") h.start ∷ l₅ in
      let l₃ = field_line (codes "entries=") h.entries ∷ l₄ in
      let l₂ = field_line (codes "cells=") h.cells ∷ l₃ in
      let l₁ = field_line (codes "boards=") h.boards ∷ l₂ in
      ap (λ r. and_next r (λ _. from-boards)) (taken_back (kind_said k) tt n₁ (n₂ ∷ n₃ ∷ n₄ ∷ n₅ ∷ ns) (kind_printed k) l₁ e (kind-said k))
      ∙ ap (λ r. and_next r from-cells) (number-back (codes "boards=") 1 8 h.boards n₂ (n₃ ∷ n₄ ∷ n₅ ∷ ns) l₂ e refl fits.boards (omega arith))
      ∙ ap (λ r. and_next r (from_entries h.boards)) (number-back (codes "cells=") 1 64 h.cells n₃ (n₄ ∷ n₅ ∷ ns) l₃ e refl fits.cells (omega arith))
      ∙ ap (λ r. and_next r (from_start h.boards h.cells)) (number-back (codes "entries=") 1 8 h.entries n₄ (n₅ ∷ ns) l₄ e refl fits.entries (omega arith))
      ∙ ap (λ r. and_next r (λ start a. (Ok (record { boards = h.boards; cells = h.cells; entries = h.entries; start = start }), a))) (number-back (codes "start=") 0 4294967295 h.start n₅ ns l₅ e refl (omega arith, fits.start) (omega arith))

-- the steps, each at its line

abbrev placed : List ℕ → List TraceStep → List PlacedStep
placed [] ss = []
placed (n ∷ ns) [] = []
placed (n ∷ ns) (s ∷ ss) = record { line = n; step = s } ∷ placed ns ss

placed-steps : (ns : List ℕ) (ss : List TraceStep) → length ns ≡ length ss → map (λ p. p.step) (placed ns ss) ≡ ss
placed-steps [] [] q = refl
placed-steps [] (s ∷ ss) q = absurd (omega arith)
placed-steps (n ∷ ns) [] q = absurd (omega arith)
placed-steps (n ∷ ns) (s ∷ ss) q = ap (λ us. s ∷ us) (placed-steps ns ss (omega arith))

placed-lines : (ns : List ℕ) (ss : List TraceStep) → length ns ≡ length ss → map (λ p. p.line) (placed ns ss) ≡ ns
placed-lines [] [] q = refl
placed-lines [] (s ∷ ss) q = absurd (omega arith)
placed-lines (n ∷ ns) [] q = absurd (omega arith)
placed-lines (n ∷ ns) (s ∷ ss) q = ap (λ ms. n ∷ ms) (placed-lines ns ss (omega arith))

course-back : (k : Kind) (i : ℕ) (ss : List TraceStep) (ns : List ℕ) → AllByRecursion (Writable k) ss → i + length ss ≤ 2048 → length ns ≡ length ss → course k i (told_at ns (map step_line ss)) ≡ record { steps = placed ns ss; fault = None }
course-back k i [] [] w few q = refl
course-back k i [] (n ∷ ns) w few q = absurd (omega arith)
course-back k i (s ∷ ss) [] w few q = absurd (omega arith)
course-back k i (s ∷ ss) (n ∷ ns) w few q =
    let more = course-back k (i + 1) ss ns w.1 (omega arith) (omega arith) in
    rw (step_back k s w.0, more) (grind (arith, nat_tests))

-- the whole

steps_all : (P : List ℕ → Type 0) (k : Kind) (ss : List TraceStep) → ((s : TraceStep) → Writable k s → P (step_line s)) → AllByRecursion (Writable k) ss → AllByRecursion P (map step_line ss)
steps_all P k [] f w = tt
steps_all P k (s ∷ ss) f w = (f s w.0, steps_all P k ss f w.1)

module _ (k : Kind) (h : Header) (ss : List TraceStep) (fits : InRange h) (w : AllByRecursion (Writable k) ss) where
  printed-plain : AllByRecursion PlainLine (printed k h ss)
  printed-plain = (
    kind-plain k,
    (
      field_plain (codes "boards=") h.boards refl (omega (arith, fits.boards)),
      (
        field_plain (codes "cells=") h.cells refl (omega (arith, fits.cells)),
        (
          field_plain (codes "entries=") h.entries refl (omega (arith, fits.entries)),
          (field_plain (codes "start=") h.start refl fits.start, steps_all PlainLine k ss (step-plain k) w),
        ),
      ),
    ),
  )

  printed-telling : AllByRecursion Telling (printed k h ss)
  printed-telling = (
    kind-told k,
    (
      field_told (codes "boards=") h.boards refl,
      (
        field_told (codes "cells=") h.cells refl,
        (
          field_told (codes "entries=") h.entries refl,
          (field_told (codes "start=") h.start refl, steps_all Telling k ss (λ s _. step-told s) w),
        ),
      ),
    ),
  )

  opening-back : (ms : List (List ℕ)) → Remarked (printed k h ss) ms → length (text_of ms) ≤ 60000 → opening k (text_of ms) ≡ (Ok h, record { telling = told_at (drop 5 (numbers 1 ms)) (map step_line ss); end = 1 + length (lines (text_of ms)) })
  opening-back ms d few =
      let e = 1 + length (lines (text_of ms)) in
      cond-false (ltb 60000 (length (text_of ms))) (Err (fault_at TextTooLong 0), left_from 1 []) (heading k (left_from 1 (lines (text_of ms)))) (le-ltb 60000 (length (text_of ms)) few)
      ∙ ap (λ ls. heading k (record { telling = told 1 ls; end = e })) (lines-back ms (plain-remarked d printed-plain))
      ∙ ap (λ ts. heading k (record { telling = ts; end = e })) (told-remarked d printed-telling 1)
      ∙ heading-back k h ss fits (numbers 1 ms) e (numbers-length d printed-telling 1)

  steps-numbers : (ms : List (List ℕ)) → Remarked (printed k h ss) ms → length (drop 5 (numbers 1 ms)) ≡ length ss
  steps-numbers ms d =
      let long = length-drop 5 (numbers 1 ms) in
      let all = numbers-length d printed-telling 1 in
      let steps = length-map ss step_line in
      omega arith

  reading-back : (ms : List (List ℕ)) → length ss ≤ 2048 → Remarked (printed k h ss) ms → length (text_of ms) ≤ 60000 → reading k (text_of ms) ≡ Ok (record { header = h; steps = placed (drop 5 (numbers 1 ms)) ss })
  reading-back ms short d few =
      ap (λ o. complete o.0 (course_after o.0 (course k 0 o.1.telling))) (opening-back ms d few)
      ∙ ap (complete (Ok h)) (course-back k 0 ss (drop 5 (numbers 1 ms)) w (omega arith) (steps-numbers ms d))

pub reads-back : ReadsBack
reads-back k h ss ms fits w short d few =
    let ns = drop 5 (numbers 1 ms) in
    let long = steps-numbers k h ss fits w ms d in
    subst (GivesBack h ss ns) (sym (reading-back k h ss fits w ms short d few)) (refl, placed-steps ns ss long, placed-lines ns ss long)

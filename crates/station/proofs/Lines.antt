-- The steps of a text: each stands on a line from 1 on, and there are at most 2,048.
use Rattle.std.proofs.Common.{◌≡◌, ℕ, ◌+◌, ◌<◌, ◌≤◌, ltb, List, [], ◌∷◌, length, Ok, Err, codes, Option, Result, sym, refl, ap, arith}
use Rattle.std.specs.List.{AllByRecursion}
use Rattle.std.proofs.lemmas.Bool.{cond_both}
use Rattle.model.specs.declared.refusal.Refusal.{Refusal}
use Rattle.model.specs.declared.refusal.Refusal.TheVariants.{TextTooLong}
use Rattle.grammar.specs.declared.kind.Kind.{Kind}
use Rattle.grammar.specs.declared.trace_step.TraceStep.{TraceStep}
use Rattle.grammar.specs.Numbers.{and_then}
use Rattle.grammar.specs.Pieces.{Piece, piece, is_remark}
use Rattle.text.specs.declared.fault.Fault.{Fault}
use Rattle.text.specs.declared.header.Header.{Header}
use Rattle.text.specs.declared.placed_step.PlacedStep.{PlacedStep}
use Rattle.grammar.specs.Fields.{kind_said, number_said}
use Rattle.grammar.specs.Steps.{step_said}
use Rattle.text.specs.Course.{Course, onward, course}
use Rattle.text.specs.Faults.{fault_at, at_line}
use Rattle.text.specs.Heading.{kind_line, number_line, and_next, heading}
use Rattle.text.specs.Lines.{lines}
use Rattle.text.specs.Reading.{opening, course_after, course_in, header_in}
use Rattle.text.specs.Telling.{Told, Left, told, left_from, answered, taking}
use Rattle.text.proofs.Steps.{step_room}

abbrev Lined : Told → Type 0
Lined t = 1 ≤ t.line

abbrev pub OnLine : PlacedStep → Type 0
OnLine p = 1 ≤ p.line

-- ── lines ──

told_lined : (n : ℕ) (ls : List (Option (List ℕ))) → 1 ≤ n → AllByRecursion Lined (told n ls)
told_lined n [] l = tt
told_lined n (x ∷ ls) l =
    let rest : AllByRecursion Lined (told (n + 1) ls) = told_lined (n + 1) ls (omega arith) in
    cond_both (is_remark (and_then x piece)) (told (n + 1) ls) (record { line = n; says = and_then x piece } ∷ told (n + 1) ls) (AllByRecursion Lined) (λ _. rest) (λ _. (l, rest))

answered-lined : {X : Type 0} (r : Result X Refusal) (t : Told) (ts : List Told) (e : ℕ) → AllByRecursion Lined (t ∷ ts) → AllByRecursion Lined (answered r t ts e).1.telling
answered-lined (Ok x) t ts e a = a.1
answered-lined (Err r) t ts e a = a

taking-lined : {X : Type 0} (f : Option Piece → Result X Refusal) (ts : List Told) (e : ℕ) → AllByRecursion Lined ts → AllByRecursion Lined (taking f ts e).1.telling
taking-lined f [] e a = tt
taking-lined f (t ∷ ts) e a = answered-lined (f t.says) t ts e a

next-lined : {X Y : Type 0} (r : Result X Fault × Left) (f : X → Left → Result Y Fault × Left) → AllByRecursion Lined r.1.telling → ((x : X) (a : Left) → AllByRecursion Lined a.telling → AllByRecursion Lined (f x a).1.telling) → AllByRecursion Lined (and_next r f).1.telling
next-lined (Ok x, a) f l g = g x a l
next-lined (Err e, a) f l g = l

number-lined : (p : List ℕ) (low high : ℕ) (a : Left) → AllByRecursion Lined a.telling → AllByRecursion Lined (number_line p low high a).1.telling
number-lined p low high a l = taking-lined (number_said p low high) a.telling a.end l

heading-lined : (k : Kind) (a : Left) → AllByRecursion Lined a.telling → AllByRecursion Lined (heading k a).1.telling
heading-lined k a l =
    next-lined (kind_line k a) _ (taking-lined (kind_said k) a.telling a.end l) (λ _ a₁ l₁.
    next-lined (number_line (codes "boards=") 1 8 a₁) _ (number-lined (codes "boards=") 1 8 a₁ l₁) (λ boards a₂ l₂.
    next-lined (number_line (codes "cells=") 1 64 a₂) _ (number-lined (codes "cells=") 1 64 a₂ l₂) (λ cells a₃ l₃.
    next-lined (number_line (codes "entries=") 1 8 a₃) _ (number-lined (codes "entries=") 1 8 a₃ l₃) (λ entries a₄ l₄.
    next-lined (number_line (codes "start=") 0 4294967295 a₄) _ (number-lined (codes "start=") 0 4294967295 a₄ l₄) (λ start a₅ l₅. l₅)))))

opening-lined : (k : Kind) (text : List ℕ) → AllByRecursion Lined (opening k text).1.telling
opening-lined k text =
    cond_both (ltb 60000 (length text)) (Err (fault_at TextTooLong 0), left_from 1 []) (heading k (left_from 1 (lines text))) (λ r. AllByRecursion Lined r.1.telling) (λ _. tt) (λ _. heading-lined k (left_from 1 (lines text)) (told_lined 1 (lines text) (omega arith)))

onward-lined : (r : Result TraceStep Refusal) (n : ℕ) (c : Course) → 1 ≤ n → AllByRecursion OnLine c.steps → AllByRecursion OnLine (onward r n c).steps
onward-lined (Ok s) n c l a = (l, a)
onward-lined (Err r) n c l a = tt

course-lined : (k : Kind) (i : ℕ) (ts : List Told) → AllByRecursion Lined ts → AllByRecursion OnLine (course k i ts).steps
course-lined k i [] a = tt
course-lined k i (t ∷ ts) a = onward-lined (step_said k i t.says) t.line (course k (i + 1) ts) a.0 (course-lined k (i + 1) ts a.1)

-- ── how many ──

onward-few : (i n : ℕ) (r : Result TraceStep Refusal) (c : Course) → i ≤ 2048 → ((s : TraceStep) → r ≡ Ok s → length c.steps + (i + 1) ≤ 2048) → length (onward r n c).steps + i ≤ 2048
onward-few i n (Ok s) c l f = let m = f s refl in omega arith
onward-few i n (Err r) c l f = omega arith

course-few : (k : Kind) (i : ℕ) (ts : List Told) → i ≤ 2048 → length (course k i ts).steps + i ≤ 2048
course-few k i [] l = omega arith
course-few k i (t ∷ ts) l =
    onward-few i t.line (step_said k i t.says) (course k (i + 1) ts) l (λ s e.
    let m : i < 2048 = step_room k i 0 t.says (step_said k i t.says) s (sym (ap (λ r. at_line r 0) e)) refl in
    course-few k (i + 1) ts (omega arith))

-- ── of a whole text ──

after-header : (r : Result Header Fault) (c : Course) → AllByRecursion OnLine c.steps → length c.steps ≤ 2048 → AllByRecursion OnLine (course_after r c).steps × (length (course_after r c).steps ≤ 2048)
after-header (Ok h) c a l = (a, l)
after-header (Err f) c a l = (tt, omega arith)

pub steps-placed : (k : Kind) (text : List ℕ) → AllByRecursion OnLine (course_in k text).steps × (length (course_in k text).steps ≤ 2048)
steps-placed k text =
    let few = course-few k 0 (opening k text).1.telling (omega arith) in
    after-header (header_in k text) (course k 0 (opening k text).1.telling) (course-lined k 0 (opening k text).1.telling (opening-lined k text)) (omega arith)

-- A header that is read has its numbers in range.
use Rattle.std.proofs.Common.{◌≡◌, ℕ, ◌≤◌, ltb, List, [], ◌∷◌, length, Some, None, Ok, Err, codes, Option, Result, refl, subst, arith}
use Rattle.std.proofs.lemmas.Bool.{cond_both}
use Rattle.std.proofs.lemmas.Bool.Decides.{nat_tests}
use Rattle.model.specs.declared.refusal.Refusal.{Refusal}
use Rattle.model.specs.declared.refusal.Refusal.TheVariants.{TextTooLong}
use Rattle.grammar.specs.declared.kind.Kind.{Kind}
use Rattle.grammar.specs.Pieces.{Piece}
use Rattle.text.specs.declared.fault.Fault.{Fault}
use Rattle.text.specs.declared.header.Header.{Header}
use Rattle.text.specs.Faults.{fault_at}
use Rattle.grammar.specs.Fields.{ranged, number_said}
use Rattle.text.specs.Heading.{number_line, kind_line, and_next, heading}
use Rattle.text.specs.Lines.{lines}
use Rattle.text.specs.Printing.{InRange}
use Rattle.text.specs.Reading.{header_in}
use Rattle.text.specs.Telling.{Told, Left, left_from, answered, taking}

-- what is taken for a value is a line that f makes that value of
taken-by : {X : Type 0} (f : Option Piece → Result X Refusal) (ts : List Told) (e : ℕ) (x : X) → (taking f ts e).0 ≡ Ok x → (o : Option Piece) × (f o ≡ Ok x)
taken-by f [] e x h = absurd cc
taken-by f (t ∷ ts) e x h = by (f t.says) refl h
  where
    by : (r : Result _ Refusal) → f t.says ≡ r → (answered r t ts e).0 ≡ Ok x → (o : Option Piece) × (f o ≡ Ok x)
    by (Ok y) q g = (t.says, cc)
    by (Err r) q g = absurd cc

ranged-in : (low high : ℕ) (o : Option ℕ) (n : ℕ) → ranged low high o ≡ Ok n → (low ≤ n) × (n ≤ high)
ranged-in low high (Some m) n h = grind (arith, nat_tests)
ranged-in low high None n h = absurd cc

number_in : (p : List ℕ) (low high : ℕ) (a : Left) (n : ℕ) → (number_line p low high a).0 ≡ Ok n → (low ≤ n) × (n ≤ high)
number_in p low high a n h = ranged-in low high _ n (taken-by (number_said p low high) a.telling a.end n h).1

Fit : Result Header Fault → Type 0
Fit (Ok h) = InRange h
Fit (Err f) = Unit {0}

next_fits : {X : Type 0} (r : Result X Fault × Left) (f : X → Left → Result Header Fault × Left) → ((x : X) (a : Left) → r.0 ≡ Ok x → Fit (f x a).0) → Fit (and_next r f).0
unfolding Fit
next_fits (Ok x, a) f g = g x a refl
next_fits (Err e, a) f g = tt

heading-fits : (k : Kind) (a : Left) → Fit (heading k a).0
unfolding Fit
heading-fits k a =
    next_fits (kind_line k a) _ (λ _ a₁ _.
    next_fits (number_line (codes "boards=") 1 8 a₁) _ (λ boards a₂ b.
    next_fits (number_line (codes "cells=") 1 64 a₂) _ (λ cells a₃ c.
    next_fits (number_line (codes "entries=") 1 8 a₃) _ (λ entries a₄ e.
    next_fits (number_line (codes "start=") 0 4294967295 a₄) _ (λ start a₅ w.
    record {
      boards = number_in (codes "boards=") 1 8 a₁ boards b;
      cells = number_in (codes "cells=") 1 64 a₂ cells c;
      entries = number_in (codes "entries=") 1 8 a₃ entries e;
      start = (number_in (codes "start=") 0 4294967295 a₄ start w).1;
    })))))

header-fits : (k : Kind) (text : List ℕ) → Fit (header_in k text)
unfolding Fit
header-fits k text =
    cond_both (ltb 60000 (length text)) (Err (fault_at TextTooLong 0), left_from 1 []) (heading k (left_from 1 (lines text))) (λ r. Fit r.0) (λ _. tt) (λ _. heading-fits k (left_from 1 (lines text)))

pub header-in-range : (k : Kind) (text : List ℕ) (h : Header) → header_in k text ≡ Ok h → InRange h
unfolding Fit
header-in-range k text h e = subst Fit e (header-fits k text)

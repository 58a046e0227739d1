-- What is read without a fault: a header in range, and at most 2,048 steps.
use Rattle.std.proofs.Common.{◌≡◌, ℕ, ◌+◌, ◌≤◌, List, [], ◌∷◌, length, Some, None, Ok, Err, Option, Result, sym, refl, ap, arith}
use Rattle.model.specs.declared.refusal.Refusal.{Refusal}
use Rattle.grammar.specs.declared.kind.Kind.{Kind}
use Rattle.grammar.specs.declared.trace_step.TraceStep.{TraceStep}
use Rattle.grammar.specs.Numbers.{and_then}
use Rattle.grammar.specs.Steps.{step_in, step_said}
use Rattle.text.specs.declared.fault.Fault.{Fault}
use Rattle.text.specs.declared.header.Header.{Header}
use Rattle.text.specs.Course.{Course, onward, course}
use Rattle.text.specs.Printing.{InRange}
use Rattle.text.specs.Reading.{opening, header_in, course_after, Trace, ended, complete, reading}
use Rattle.text.specs.Telling.{Told}
use Rattle.text.proofs.Headers.{header-in-range}
use Rattle.text.proofs.Steps.{room-left}

-- a reading without a fault has the header and the steps of its text
read_by : (r : Result Header Fault) (c : Course) (t : Trace) → complete r (course_after r c) ≡ Ok t → (r ≡ Ok t.header) × (t.steps ≡ c.steps)
read_by (Ok h) c t e = by c.fault e
  where
    by : (f : Option Fault) → ended h c.steps f ≡ Ok t → (◌≡◌ {A = Result Header Fault} (Ok h) (Ok t.header)) × (t.steps ≡ c.steps)
    by None e = let is : record { header = h; steps = c.steps } ≡ t = cc in (ap (λ x. Ok x.header) is, ap (λ x. x.steps) (sym is))
    by (Some f) e = absurd cc
read_by (Err f) c t e = absurd cc

few_on : (k : Kind) (i : ℕ) (ts : List Told) → i ≤ 2048 → i + length (course k i ts).steps ≤ 2048
few_on k i [] h = omega arith
few_on k i (t ∷ ts) h = by (step_said k i t.says) refl (few_on k (i + 1) ts)
  where
    by : (r : Result TraceStep Refusal) → step_said k i t.says ≡ r → (i + 1 ≤ 2048 → (i + 1) + length (course k (i + 1) ts).steps ≤ 2048) → i + length (onward r t.line (course k (i + 1) ts)).steps ≤ 2048
    by (Ok s) e rest = let l = room-left i (and_then t.says (step_in k)) s (sym e) in omega (arith, rest (omega arith))
    by (Err r) e rest = omega arith

module _ (k : Kind) (text : List ℕ) (t : Trace) (e : reading k text ≡ Ok t) where
  pub read-in-range : InRange t.header
  read-in-range = header-in-range k text t.header (read_by (header_in k text) (course k 0 (opening k text).1.telling) t e).0

  pub few-steps : length t.steps ≤ 2048
  few-steps =
      let few = few_on k 0 (opening k text).1.telling (omega arith) in
      omega (arith, ap length (read_by (header_in k text) (course k 0 (opening k text).1.telling) t e).1)

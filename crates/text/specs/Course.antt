-- The steps of a trace after its header.
use Rattle.std.specs.Prelude.{ℕ, ◌+◌, List, [], ◌∷◌, Some, None, Ok, Err, Option, Result}
use Rattle.model.specs.declared.refusal.Refusal.{Refusal}
use Rattle.grammar.specs.declared.kind.Kind.{Kind}
use Rattle.grammar.specs.declared.trace_step.TraceStep.{TraceStep}
use Rattle.grammar.specs.Steps.{step_said}
use Rattle.text.specs.declared.fault.Fault.{Fault}
use Rattle.text.specs.declared.placed_step.PlacedStep.{PlacedStep}
use Rattle.text.specs.Faults.{fault_at}
use Rattle.text.specs.Telling.{Told}

-- the steps up to the end or to the first fault, and that fault
pub record Course : Type 0 where
  pub steps : List PlacedStep
  pub fault : Option Fault

abbrev pub broken : Fault → Course
broken f = record { steps = []; fault = Some f }

abbrev pub further : PlacedStep → Course → Course
further p c = record { steps = p ∷ c.steps; fault = c.fault }

abbrev pub onward : Result TraceStep Refusal → ℕ → Course → Course
onward (Ok s) n c = further (record { line = n; step = s }) c
onward (Err r) n c = broken (fault_at r n)

-- from lines that come after i steps
abbrev pub course : Kind → ℕ → List Told → Course
course k i [] = record { steps = []; fault = None }
course k i (t ∷ ts) = onward (step_said k i t.says) t.line (course k (i + 1) ts)

-- what the next step of a course is, and the course after it
abbrev pub next_in : List PlacedStep → Option Fault → Result (Option PlacedStep) Fault
next_in (p ∷ ps) f = Ok (Some p)
next_in [] None = Ok None
next_in [] (Some f) = Err f

abbrev pub next : Course → Result (Option PlacedStep) Fault
next c = next_in c.steps c.fault

abbrev pub others : List PlacedStep → List PlacedStep
others [] = []
others (p ∷ ps) = ps

abbrev pub rest : Course → Course
rest c = record { steps = others c.steps; fault = c.fault }

-- how a course ends
abbrev pub end_of : Option Fault → Result (Unit {0}) Fault
end_of None = Ok tt
end_of (Some f) = Err f

abbrev pub ending : Course → Result (Unit {0}) Fault
ending c = end_of c.fault

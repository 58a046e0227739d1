-- The meaning of a whole text, read as a trace of the kind that is wanted: the trace, or the first fault.
use Rattle.std.specs.Prelude.{ℕ, cond, List, [], length, Some, None, Ok, Err, Option, Result, nat_lt}
use Rattle.model.specs.declared.refusal.Refusal.TheVariants.{TextTooLong}
use Rattle.grammar.specs.declared.kind.Kind.{Kind}
use Rattle.text.specs.declared.fault.Fault.{Fault}
use Rattle.text.specs.declared.header.Header.{Header}
use Rattle.text.specs.declared.placed_step.PlacedStep.{PlacedStep}
use Rattle.text.specs.Course.{Course, broken, course}
use Rattle.text.specs.Faults.{fault_at}
use Rattle.text.specs.Heading.{heading}
use Rattle.text.specs.Lines.{lines}
use Rattle.text.specs.Telling.{Left, left_from}

-- the size is looked at before any line, and then stands for line 0
abbrev pub opening : Kind → List ℕ → Result Header Fault × Left
opening k text =
    cond (nat_lt 60000 (length text)) (Err (fault_at TextTooLong 0), left_from 1 []) (heading k (left_from 1 (lines text)))

abbrev pub header_in : Kind → List ℕ → Result Header Fault
header_in k text = (opening k text).0

-- a text with a fault before its steps has no steps
abbrev pub course_after : Result Header Fault → Course → Course
course_after (Ok h) c = c
course_after (Err f) c = broken f

abbrev pub course_in : Kind → List ℕ → Course
course_in k text = course_after (header_in k text) (course k 0 (opening k text).1.telling)

pub record Trace : Type 0 where
  pub header : Header
  pub steps : List PlacedStep

abbrev pub ended : Header → List PlacedStep → Option Fault → Result Trace Fault
ended h ps None = Ok (record { header = h; steps = ps })
ended h ps (Some f) = Err f

abbrev pub complete : Result Header Fault → Course → Result Trace Fault
complete (Ok h) c = ended h c.steps c.fault
complete (Err f) c = Err f

abbrev pub reading : Kind → List ℕ → Result Trace Fault
reading k text = complete (header_in k text) (course_in k text)

abbrev pub header_of : Result Trace Fault → Result Header Fault
header_of (Ok t) = Ok t.header
header_of (Err f) = Err f

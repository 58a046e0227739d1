-- What is still to come of a trace that was opened.
use Rattle.text.specs.declared.trace.Trace.{Trace}
use Rattle.text.specs.Course.{Course, course}
use Rattle.text.specs.Readers.{left}
use Rattle.text.specs.Reading.{course_after}

-- the steps before the reader
abbrev pub steps_of : Trace → Course
steps_of t = course t.kind t.steps (left t.reader).telling

-- what the trace answers from here on: those steps, unless its header is at fault
abbrev pub course_of : Trace → Course
course_of t = course_after t.header (steps_of t)

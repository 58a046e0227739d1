-- What the judge has to do at a step of a log.
use Rattle.std.specs.Option.{option_map_or}
use Rattle.model.specs.Steps.{event_of}
use Rattle.grammar.specs.declared.trace_step.TraceStep.{TraceStep}
use Rattle.grammar.specs.declared.trace_step.TraceStep.TheVariants.{Plain, ReadWord}
use Rattle.station.specs.declared.task.Task.{Task}
use Rattle.station.specs.declared.task.Task.TheVariants.{Note, Check, Skip}

-- writes, acquires and releases are events; write backs, ejects and landings are skipped; a log has no read without its word
abbrev pub task_of : TraceStep → Task
task_of (ReadWord b c w) = Check b c w
task_of (Plain s) = option_map_or Note (event_of s) Skip

-- The event that a step is, if it is accepted.
use Rattle.std.specs.Prelude.{Some, None, Option}
use Rattle.model.specs.declared.event.Action.{Action}
use Rattle.model.specs.declared.event.Event.{Event}
use Rattle.model.specs.declared.step.Step.{Step}

-- writes, acquires and releases are events; the other steps are none
abbrev pub event_of : Step → Option Event
event_of (Step.Read b c) = None
event_of (Step.Write b c w) = Some (record { board = b; cell = c; action = Action.Write w })
event_of (Step.Acquire b c) = Some (record { board = b; cell = c; action = Action.Acquire })
event_of (Step.Release b c) = Some (record { board = b; cell = c; action = Action.Release })
event_of (Step.WriteBack b c) = None
event_of (Step.Eject b c) = None
event_of Step.Land = None

-- What a log tells: the events on all cells, and the moves at one cell. A log is the steps of a bench with their answers,
-- newest first; nothing that a bench keeps is in it.
use Rattle.std.specs.Prelude.{ℕ, List, [], ◌∷◌, ◌++◌}
use Rattle.model.specs.declared.answer.Answer.{Answer}
use Rattle.model.specs.declared.event.Action.{Action}
use Rattle.model.specs.declared.event.Event.{Event}
use Rattle.model.specs.declared.step.Step.{Step}
use Rattle.protocol.specs.Machine.{Move}
use Rattle.protocol.specs.Runs.{event_of}
use Rattle.state.specs.Cells.{move_at}

pub record Logged : Type 0 where
  pub step : Step
  pub answer : Answer

-- the log with further steps on top, each answered so
abbrev pub onto : List Logged → List Step → List Answer → List Logged
onto log [] answers = log
onto log (x ∷ xs) [] = log
onto log (x ∷ xs) (a ∷ answers) = onto (record { step = x; answer = a } ∷ log) xs answers

-- an event counts if its step was accepted
abbrev pub if_accepted : Answer → Event → List Event
if_accepted Answer.Done e = e ∷ []
if_accepted (Answer.Word w) e = []
if_accepted (Answer.Landed x) e = []
if_accepted Answer.NothingWaits e = []
if_accepted (Answer.Refused r) e = []

-- writes, acquires and releases are events; the other steps are none
abbrev pub event_in : Step → Answer → List Event
event_in (Step.Read b c) a = []
event_in (Step.Write b c w) a = if_accepted a (event_of c b (Action.Write w))
event_in (Step.Acquire b c) a = if_accepted a (event_of c b Action.Acquire)
event_in (Step.Release b c) a = if_accepted a (event_of c b Action.Release)
event_in (Step.WriteBack b c) a = []
event_in (Step.Eject b c) a = []
event_in Step.Land a = []

-- the history: the accepted events, oldest first
abbrev pub events : List Logged → List Event
events [] = []
events (x ∷ log) = events log ++ event_in x.step x.answer

-- the protocol's moves at the cell c, newest first; a refused step and one on another cell is none
abbrev pub moves : (c : ℕ) → List Logged → List Move
moves c [] = []
moves c (x ∷ log) = move_at c x.step x.answer ∷ moves c log

-- a read of the cell c by the board b that answered the word w
abbrev pub read_of : (b c w : ℕ) → Logged
read_of b c w = record { step = Step.Read b c; answer = Answer.Word w }

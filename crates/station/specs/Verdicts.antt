-- The verdict on a text, and its number.
use Rattle.std.specs.Prelude.{ℕ, ◌+◌, ◌*◌, Bool, true, false, List, [], ◌∷◌, Some, None, Ok, Err, Option, Result}
use Rattle.model.specs.Refusals.{number_of}
use Rattle.model.specs.declared.event.Event.{Event}
use Rattle.model.specs.declared.refusal.Refusal.{Refusal}
use Rattle.judge.specs.Judging.{note_answer, extended, legal_answer}
use Rattle.grammar.specs.declared.kind.Kind.TheVariants.{Log}
use Rattle.text.specs.declared.fault.Fault.{Fault}
use Rattle.text.specs.declared.placed_step.PlacedStep.{PlacedStep}
use Rattle.text.specs.Faults.{fault_at}
use Rattle.text.specs.Heading.{starting_words}
use Rattle.text.specs.Reading.{Trace, reading}
use Rattle.station.specs.declared.task.Task.{Task}
use Rattle.station.specs.declared.task.Task.TheVariants.{Note, Check, Skip}
use Rattle.station.specs.declared.verdict.Verdict.{Verdict}
use Rattle.station.specs.declared.verdict.Verdict.TheVariants.{AllLegal, FalseRead, Faulty}
use Rattle.station.specs.Tasks.{task_of}

-- ── one step ──

-- true: the event is accepted, or the read is legal; false: the read is not legal
abbrev pub accepted : Result ℕ Refusal → Result Bool Refusal
accepted (Ok n) = Ok true
accepted (Err r) = Err r

abbrev pub found : Result (Option ℕ) Refusal → Result Bool Refusal
found (Ok (Some n)) = Ok true
found (Ok None) = Ok false
found (Err r) = Err r

-- after the events h, on a bench of so many boards whose cells start with those words
abbrev pub task_answer : (h : List Event) (boards : ℕ) (words : List ℕ) → Task → Result Bool Refusal
task_answer h boards words (Note e) = accepted (note_answer h 2048 boards words e)
task_answer h boards words (Check b c w) = found (legal_answer h boards words b c w)
task_answer h boards words Skip = Ok true

abbrev pub history_after : (h : List Event) (boards : ℕ) (words : List ℕ) → Task → List Event
history_after h boards words (Note e) = extended (note_answer h 2048 boards words e) h e
history_after h boards words (Check b c w) = h
history_after h boards words Skip = h

-- ── the steps in turn ──

-- a read that is not legal and a refusal end the judging at their line
abbrev pub ended : Result Bool Refusal → ℕ → Option Verdict
ended (Ok true) n = None
ended (Ok false) n = Some (FalseRead n)
ended (Err r) n = Some (Faulty (fault_at r n))

abbrev pub resumed : Option Verdict → Verdict → Verdict
resumed None v = v
resumed (Some v) u = v

-- the verdict where nothing ends the judging before the last step: last
abbrev pub judged_to : (last : Verdict) (boards : ℕ) (words : List ℕ) (h : List Event) → List PlacedStep → Verdict
judged_to last boards words h [] = last
judged_to last boards words h (p ∷ ps) =
    resumed (ended (task_answer h boards words (task_of p.step)) p.line) (judged_to last boards words (history_after h boards words (task_of p.step)) ps)

-- the end of a text, or a fault in place of it
abbrev pub end_of : Option Fault → Verdict
end_of None = AllLegal
end_of (Some f) = Faulty f

-- ── the whole text ──

-- a fault of the text or its header goes first
abbrev pub verdict_for : Result Trace Fault → Verdict
verdict_for (Ok t) = judged_to AllLegal t.header.boards (starting_words t.header) [] t.steps
verdict_for (Err f) = Faulty f

abbrev pub verdict_of : List ℕ → Verdict
verdict_of log = verdict_for (reading Log log)

abbrev pub verdict_number : Verdict → ℕ
verdict_number AllLegal = 0
verdict_number (FalseRead line) = line
verdict_number (Faulty f) = 1000000 * number_of f.refusal + f.line

abbrev pub number_on : List ℕ → ℕ
number_on log = verdict_number (verdict_of log)

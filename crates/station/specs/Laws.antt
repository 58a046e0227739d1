-- When a verdict says that all reads are legal, in the words of the memory model.
use Rattle.std.specs.Prelude.{◌≡◌, ℕ, ◌<◌, ◌↔◌, List, [], ◌∷◌, ◌++◌, Ok}
use Rattle.std.specs.List.{AllByRecursion}
use Rattle.model.specs.declared.event.Event.{Event}
use Rattle.order.specs.Order.{Disciplined, Legal}
use Rattle.grammar.specs.declared.kind.Kind.TheVariants.{Log}
use Rattle.grammar.specs.declared.trace_step.TraceStep.TheVariants.{ReadWord}
use Rattle.text.specs.declared.header.Header.{Header}
use Rattle.text.specs.declared.placed_step.PlacedStep.{PlacedStep}
use Rattle.text.specs.Reading.{Trace, reading}
use Rattle.station.specs.declared.task.Task.{Task}
use Rattle.station.specs.declared.task.Task.TheVariants.{Note, Check, Skip}
use Rattle.station.specs.Tasks.{task_of}
use Rattle.station.specs.declared.verdict.Verdict.TheVariants.{FalseRead}
use Rattle.station.specs.Verdicts.{number_on, verdict_of}

-- the events of some steps, in turn
abbrev pub event_in : Task → List Event
event_in (Note e) = e ∷ []
event_in (Check b c w) = []
event_in Skip = []

abbrev pub events_of : List PlacedStep → List Event
events_of [] = []
events_of (p ∷ ps) = event_in (task_of p.step) ++ events_of ps

-- the board and the cell of an event or a read are on the bench
abbrev pub OnBench : Header → Task → Type 0
OnBench h (Note e) = (e.board < h.boards) × (e.cell < h.cells)
OnBench h (Check b c w) = (b < h.boards) × (c < h.cells)
OnBench h Skip = Unit {0}

abbrev pub Stands : Header → PlacedStep → Type 0
Stands h p = OnBench h (task_of p.step)

abbrev pub read_step : (line b c w : ℕ) → PlacedStep
read_step line b c w = record { line = line; step = ReadWord b c w }

-- what a log of a bench under that header has to be for all of its reads to be legal
pub record AllReadsLegal (h : Header) (steps : List PlacedStep) : Type 0 where
  -- its events and reads are of boards and cells of the bench
  pub on_bench : AllByRecursion (Stands h) steps
  -- each acquire finds its cell without an owner, and each release is by the owner
  pub disciplined : Disciplined (events_of steps)
  -- each read answers the word of some write that is readable for its board after the events before it
  pub legal : (before later : List PlacedStep) (line b c w : ℕ) → steps ≡ before ++ read_step line b c w ∷ later → Legal (events_of before) h.start c b w

-- the number is 0 exactly if the text is a log without a fault and all of its reads are legal
unfoldable pub ZeroExactly : Type 0
ZeroExactly = (log : List ℕ) → (number_on log ≡ 0) ↔ ((t : Trace) × (reading Log log ≡ Ok t) × AllReadsLegal t.header t.steps)

-- the read on line n is the first that is not legal
pub record FirstFalse (h : Header) (steps : List PlacedStep) (n : ℕ) : Type 0 where
  pub before : List PlacedStep
  pub later : List PlacedStep
  pub board : ℕ
  pub cell : ℕ
  pub word : ℕ
  pub splits : steps ≡ before ++ read_step n board cell word ∷ later
  pub so_far : AllReadsLegal h before
  pub on_bench : (board < h.boards) × (cell < h.cells)
  pub not_legal : Legal (events_of before) h.start cell board word → ⊥

-- a read is told to be false exactly if the text is a log without a fault and that read is the first that is not legal
unfoldable pub FalseExactly : Type 0
FalseExactly = (log : List ℕ) (n : ℕ) → (verdict_of log ≡ FalseRead n) ↔ ((t : Trace) × (reading Log log ≡ Ok t) × FirstFalse t.header t.steps n)

-- Lists of calls of a bench, each on top of the former: single steps and runs, refused ones among them.
use Rattle.std.specs.Prelude.{List, [], ◌∷◌, Ok, Err, Result}
use Rattle.model.specs.declared.answer.Answer.{Answer}
use Rattle.model.specs.declared.refusal.Refusal.{Refusal}
use Rattle.model.specs.declared.step.Step.{Step}
use Rattle.state.specs.Runs.{Ran}
use Rattle.state.specs.States.{State}
use Rattle.state.specs.Steps.{Takes}
use Rattle.rules.specs.Logs.{Logged, onto}

-- A call and what came of it: a step with its answer, or a run of a list of steps with its result and the list of answers
-- before and after it.
pub data Call : Type 0 where
  stepped : Step → Answer → Call
  ran : (steps : List Step) (before : List Answer) (result : Result (Unit {0}) Refusal) (after : List Answer) → Call

-- From the opened bench o the calls, newest first, led to s.
pub data Since (o : State) : List Call → State → Type 0 where
  opening : Since o [] o
  step : {calls : List Call} {s t : State} {x : Step} {a : Answer} → Since o calls s → Takes s x a t → Since o (stepped x a ∷ calls) t
  run : {calls : List Call} {s t : State} {xs : List Step} {before : List Answer} {r : Result (Unit {0}) Refusal} {after : List Answer}
      → Since o calls s → Ran s xs before r after t → Since o (ran xs before r after ∷ calls) t

-- a run counts as its steps in turn, a refused one as none
abbrev pub ran_onto : Result (Unit {0}) Refusal → List Logged → List Step → List Answer → List Logged
ran_onto (Ok u) log xs answers = onto log xs answers
ran_onto (Err r) log xs answers = log

abbrev pub log_of : List Call → List Logged
log_of [] = []
log_of (stepped x a ∷ calls) = record { step = x; answer = a } ∷ log_of calls
log_of (ran xs before r after ∷ calls) = ran_onto r (log_of calls) xs after

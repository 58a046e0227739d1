-- Lists of steps, each from the state that the former leaves.
use Rattle.std.specs.Prelude.{List, [], ◌∷◌}
use Rattle.model.specs.declared.answer.Answer.{Answer}
use Rattle.model.specs.declared.step.Step.{Step}
use Rattle.state.specs.States.{State}
use Rattle.state.specs.Steps.{Takes}

-- from the first state the steps, each answered so, lead to the last
pub data Chain : State → List Step → List Answer → State → Type 0 where
  end : {s : State} → Chain s [] [] s
  link : {s t u : State} {call : Step} {calls : List Step} {answer : Answer} {answers : List Answer} → Takes s call answer t → Chain t calls answers u → Chain s (call ∷ calls) (answer ∷ answers) u

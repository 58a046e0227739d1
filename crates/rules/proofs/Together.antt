-- The rules of a bench, and the worked cases, together.
use Rattle.std.proofs.Common.{ℕ, List, [], ◌∷◌, Result, ◌∙◌}
use Rattle.model.specs.declared.answer.Answer.{Answer}
use Rattle.model.specs.declared.carry.Carry.{Carry}
use Rattle.model.specs.declared.refusal.Refusal.{Refusal}
use Rattle.model.specs.declared.step.Step.{Step}
use Rattle.carries.specs.Lines.{Proper}
use Rattle.judge.proofs.Examples.{examples}
use Rattle.judge.specs.Examples.{Examples}
use Rattle.state.specs.Opening.{opened}
use Rattle.state.specs.Runs.{Ran}
use Rattle.state.specs.States.{State}
use Rattle.state.proofs.Cases.{bench-cases}
use Rattle.state.proofs.Opened.{sound-opened}
use Rattle.state.proofs.Ways.{no-boards-refuse}
use Rattle.rules.specs.Calls.{ran, opening, run, ran_onto}
use Rattle.rules.specs.Cases.{RulesOfBench, WorkedCases}
use Rattle.rules.specs.Rules.{KeepsModel, OverAllCalls}
use Rattle.rules.proofs.Happens.{met}
use Rattle.rules.proofs.Kept.{run_at, keeps_model}
use Rattle.rules.proofs.Logged.{reach, sound-reached, same-sizes}
use Rattle.rules.proofs.Onward.{goes_on}
use Rattle.rules.proofs.Opening.{refused-boards, accepted-boards}

pub over_all_calls : OverAllCalls
over_all_calls boards entries words lines long proper calls s since =
    let reached = reach since in
    record {
      model = keeps_model boards entries words lines long proper reached;
      machine = λ c accepted there. run_at boards entries words lines long proper c (accepted-boards boards entries words lines long accepted) there reached;
      sizes = same-sizes reached;
      goes_on = goes_on (sound-reached (sound-opened boards entries words lines long proper) reached);
      refused_opening = λ r refused x a t takes. no-boards-refuse s t x a takes ((same-sizes reached).boards ∙ refused-boards boards entries words lines long r refused);
    }

-- a run on a bench that was just opened
pub ran-from : (boards entries : ℕ) (words : List ℕ) (lines : List (List Carry)) (long : ℕ) → Proper long lines → (xs : List Step) (before : List Answer) (r : Result (Unit {0}) Refusal) (after : List Answer) (s : State)
    → Ran (opened boards entries words lines long) xs before r after s → KeepsModel (opened boards entries words lines long) (ran_onto r [] xs after)
ran-from boards entries words lines long proper xs before r after s done = (over_all_calls boards entries words lines long proper (ran xs before r after ∷ []) s (run opening done)).model

pub rules-of-bench : RulesOfBench
unfolding RulesOfBench
rules-of-bench = record { over_all_calls = over_all_calls; met = met }

pub worked-cases : WorkedCases
unfolding WorkedCases Examples
worked-cases = record { readable = examples; bench = bench-cases }

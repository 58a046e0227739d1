-- From every sound state each further call has an answer, and each further step keeps the laws of the steps.
use Rattle.std.proofs.Common.{◌≡◌, suc, ◌<◌, ◌≤◌, List, ◌++◌, length, drop, Ok, Err, Result, sym, refl, ap, subst, ⊎_elim}
use Rattle.std.proofs.lemmas.List.{take_at, drop_at}
use Rattle.std.proofs.lemmas.Bool.{cases_lt}
use Rattle.model.specs.declared.answer.Answer.{Answer}
use Rattle.model.specs.declared.refusal.Refusal.{Refusal}
use Rattle.model.specs.declared.step.Step.{Step}
use Rattle.state.specs.Chains.{Chain, end, link}
use Rattle.state.specs.Runs.{Ran}
use Rattle.state.specs.Sound.{Sound}
use Rattle.state.specs.States.{State}
use Rattle.state.proofs.Answered.{answered}
use Rattle.state.proofs.Chains.{lists_answered}
use Rattle.state.proofs.Protocol.{follows}
use Rattle.state.proofs.Ways.{refused_keeps, refused_rightly}
use Rattle.rules.specs.Rules.{GoesOn}

-- one answer for each step
length-answers : {s t : State} {xs : List Step} {answers : List Answer} → Chain s xs answers t → length answers ≡ length xs
length-answers end = refl
length-answers (link takes chain) = ap suc (length-answers chain)

abbrev RunAnswered : State → List Step → List Answer → Type 0
RunAnswered s xs before = (r : Result (Unit {0}) Refusal) × (after : List Answer) × (t : State) × Ran s xs before r after t

run_answered : (s : State) → Sound s → (xs : List Step) (before : List Answer) → RunAnswered s xs before
run_answered s sound xs before = ⊎_elim short enough (cases_lt (length before) (length xs))
  where
    short : length before < length xs → RunAnswered s xs before
    short h = (Err Refusal.AnswersTooShort, before, s, record { short = h; refusal = refl; answers = refl; state = refl })

    enough : length xs ≤ length before → RunAnswered s xs before
    enough h =
        let run = lists_answered s xs sound in
        let rest = drop (length xs) before in
        let long = length-answers run.2 in (
          Ok tt,
          run.0 ++ rest,
          run.1,
          record { room = h; chain = subst (λ l. Chain s xs l run.1) (sym (take_at run.0 rest (length xs) long)) run.2; rest = drop_at run.0 rest (length xs) long },
        )

pub goes_on : {s : State} → Sound s → GoesOn s
goes_on {s} sound =
    record {
      step_answered = λ x. answered s x sound;
      run_answered = run_answered s sound;
      protocol = λ x a t takes. follows s t x a takes sound;
      refused = λ x r t takes. (refused_keeps s t x r takes, refused_rightly s t x r takes sound);
    }

-- Lists of steps: one after another, and what they keep and answer.
use Rattle.std.proofs.Common.{ℕ, ◌+◌, ◌<◌, List, [], ◌∷◌, ◌++◌, length, get_or, take, set, sym, subst}
use Rattle.std.proofs.lemmas.List.{take_more, take_more_set}
use Rattle.model.specs.declared.answer.Answer.{Answer}
use Rattle.model.specs.declared.step.Step.{Step}
use Rattle.state.specs.Chains.{Chain, end, link}
use Rattle.state.specs.Laws.{ListsAnswered}
use Rattle.state.specs.Sound.{Sound}
use Rattle.state.specs.States.{State}
use Rattle.state.specs.Steps.{Takes}
use Rattle.state.proofs.Answered.{answered}
use Rattle.state.proofs.Kept.{sound-kept}

pub chain-append : {s t u : State} {xs ys : List Step} {answers more : List Answer} → Chain s xs answers t → Chain t ys more u → Chain s (xs ++ ys) (answers ++ more) u
chain-append end next = next
chain-append (link takes chain) next = link takes (chain-append chain next)

-- one step more at the end
pub chain-push : {s t u : State} {calls : List Step} {answers : List Answer} (call : Step) (a : Answer) → Chain s calls answers t → Takes t call a u → Chain s (calls ++ call ∷ []) (answers ++ a ∷ []) u
chain-push call a chain takes = chain-append chain (link takes end)

-- one step more of a list whose answers are written into another
pub chain_more : (s t u : State) (calls : List Step) (answers : List Answer) (i : ℕ) (d : Step) (a : Answer) → i < length calls → i < length answers
    → Chain s (take i calls) (take i answers) t → Takes t (get_or calls i d) a u → Chain s (take (i + 1) calls) (take (i + 1) (set answers i a)) u
chain_more s t u calls answers i d a h k chain takes =
    subst (λ l. Chain s l (take (i + 1) (set answers i a)) u) (sym (take_more calls i d h))
    (subst (λ l. Chain s (take i calls ++ get_or calls i d ∷ []) l u) (sym (take_more_set answers i a k)) (chain-push (get_or calls i d) a chain takes))

pub sound-chain : {s t : State} {calls : List Step} {answers : List Answer} → Chain s calls answers t → Sound s → Sound t
sound-chain end k = k
sound-chain {s = s} (link {t = t} {call = call} {answer = a} takes chain) k = sound-chain chain (sound-kept s t call a takes k)

pub lists_answered : ListsAnswered
lists_answered s [] k = ([], s, end)
lists_answered s (call ∷ calls) k =
    let one = answered s call k in
    let rest = lists_answered one.1 calls (sound-kept s one.1 call one.0 one.2 k) in
    (one.0 ∷ rest.0, rest.1, link one.2 rest.2)

-- Lists of steps together with the path: one step more, and what is left where the path is forgotten.
use Rattle.std.proofs.Common.{◌≡◌, ℕ, ◌+◌, ◌<◌, List, [], ◌∷◌, ◌++◌, length, get_or, take, set, Option, sym, subst, arith}
use Rattle.std.proofs.lemmas.List.{take_all, take_more, take_more_set}
use Rattle.model.specs.declared.answer.Answer.{Answer}
use Rattle.model.specs.declared.carry.Carry.{Carry}
use Rattle.model.specs.declared.step.Step.{Step}
use Rattle.state.specs.Chains as chains
use Rattle.state.specs.Chains.{Chain}
use Rattle.state.specs.Runs.{Course, end, link, Carries, traffic_of}
use Rattle.state.specs.States.{State}
use Rattle.state.specs.Steps.{Takes}

module _ {P : Type 0} (Starts : P → Carry → P → Type 0) (Lands : P → Option Carry → P → Type 0) where
  -- the chain of a course
  pub forget-path : {s t : State} {p q : P} {calls : List Step} {answers : List Answer} → Course Starts Lands s p calls answers t q → Chain s calls answers t
  forget-path end = chains.end
  forget-path (link takes carries course) = chains.link takes (forget-path course)

  -- one step more at the end
  pub course-push : {s t u : State} {p q r : P} {calls : List Step} {answers : List Answer} (call : Step) (a : Answer)
      → Course Starts Lands s p calls answers t q → Takes t call a u → Carries Starts Lands q (traffic_of t call a) r
      → Course Starts Lands s p (calls ++ call ∷ []) (answers ++ a ∷ []) u r
  course-push call a end takes carries = link takes carries end
  course-push call a (link first went course) takes carries = link first went (course-push call a course takes carries)

  -- one step more of a list whose answers are written into another
  pub course-more : (s t u : State) (p q r : P) (calls : List Step) (answers : List Answer) (i : ℕ) (d : Step) (a : Answer) → i < length calls → i < length answers
      → Course Starts Lands s p (take i calls) (take i answers) t q → Takes t (get_or calls i d) a u → Carries Starts Lands q (traffic_of t (get_or calls i d) a) r
      → Course Starts Lands s p (take (i + 1) calls) (take (i + 1) (set answers i a)) u r
  course-more s t u p q r calls answers i d a h k course takes carries =
      subst (λ l. Course Starts Lands s p l (take (i + 1) (set answers i a)) u r) (sym (take_more calls i d h))
      (subst (λ l. Course Starts Lands s p (take i calls ++ get_or calls i d ∷ []) l u r) (sym (take_more_set answers i a k)) (course-push (get_or calls i d) a course takes carries))

  -- all steps of a list, once as many are taken as it has
  pub course-all : (s t : State) (p q : P) (calls : List Step) (answers : List Answer) (i : ℕ) → i ≡ length calls
      → Course Starts Lands s p (take i calls) (take i answers) t q → Course Starts Lands s p calls (take (length calls) answers) t q
  course-all s t p q calls answers i e course =
      subst (λ l. Course Starts Lands s p l (take (length calls) answers) t q) (take_all (length calls) calls (omega arith))
      (subst (λ n. Course Starts Lands s p (take n calls) (take n answers) t q) e course)

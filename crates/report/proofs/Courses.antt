-- The answers of a bench over a first-come path, whatever kind of path is one.
use Rattle.std.proofs.Common.{◌≡◌, ℕ, List, [], ◌∷◌, ◌++◌, drop, None, Option, refl, ap, ◌∙◌, subst}
use Rattle.model.specs.declared.answer.Answer.{Answer}
use Rattle.model.specs.declared.carry.Carry.{Carry}
use Rattle.model.specs.declared.step.Step.{Step}
use Rattle.carries.specs.Lines.{oldest, start_at, if_started}
use Rattle.carries.specs.Tables.{lines_of}
use Rattle.state.specs.Opening.{refusal_of, opened}
use Rattle.state.specs.Runs.{Traffic, none, starts, lands, traffic_of, Carries, Course, end, link}
use Rattle.state.specs.Sound.{Sound}
use Rattle.state.specs.States.{State}
use Rattle.state.proofs.Kept.{sound-kept}
use Rattle.report.specs.Plain.{Plain, fresh, step, answers}
use Rattle.report.proofs.Likes.{Like, sound-idle, like-opened}
use Rattle.report.proofs.Simulated.{Waits, agreed}

module _ {P : Type 0} (held : P → List Carry) (Starts : P → Carry → P → Type 0) (Lands : P → Option Carry → P → Type 0)
    (on-start : (p : P) (x : Carry) (q : P) → Starts p x q → held q ≡ if_started (start_at 8 (lines_of (held p)) x) (held p ++ x ∷ []) (held p))
    (on-land : (p : P) (o : Option Carry) (q : P) → Lands p o q → (o ≡ oldest (held p)) × (held q ≡ drop 1 (held p))) where
  -- by its carries, such a path is a first-come one
  waits : (k l : P) (tr : Traffic) → Carries Starts Lands k tr l → Waits (held k) tr (held l)
  waits k l none h = ap held h
  waits k l (starts x) h = on-start k x l h
  waits k l (lands o) h = on-land k o l h

  -- from benches that are alike on
  same_from : {s t : State} {k l : P} {calls : List Step} {given : List Answer} → Course Starts Lands s k calls given t l
      → (p : Plain) → Sound s → Like s p → held k ≡ p.waiting → given ≡ answers p calls
  same_from end p sound like is = refl
  same_from {s = s} {k = k} (link {t = t} {q = l} {call = call} {calls = calls} {answer = a} {answers = given} takes carries rest) p sound like is =
      let one = agreed s p sound like t call a (held l) takes (subst (λ xs. Waits xs (traffic_of s call a) (held l)) is (waits k l (traffic_of s call a) carries)) in
      ap (λ x. x ∷ given) one.answer
      ∙ ap (λ more. (step p call).0 ∷ more) (same_from rest (step p call).1 (sound-kept s t call a takes sound) one.like one.waiting)

  pub same-answers : (b e : ℕ) (ws : List ℕ) (p q : P) (calls : List Step) (given : List Answer) (t : State)
      → refusal_of b e ws (lines_of (held p)) ≡ None → held p ≡ [] → Course Starts Lands (opened b e ws (lines_of (held p)) 8) p calls given t q
      → given ≡ answers (fresh b e ws) calls
  same-answers b e ws p q calls given t accepted empty course =
      same_from (subst (λ xs. Course Starts Lands (opened b e ws (lines_of xs) 8) p calls given t q) empty course) (fresh b e ws)
      (sound-idle b e ws)
      (like-opened b e ws (subst (λ xs. refusal_of b e ws (lines_of xs) ≡ None) empty accepted))
      empty

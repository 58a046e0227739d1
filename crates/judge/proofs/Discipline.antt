-- A history keeps to ownership exactly if each of its events was allowed in its turn.
use Rattle.std.proofs.Common.{◌≡◌, ℕ, eqb, ◌↔◌, List, [], Some, None, Ok, Err, Option, sym, refl, ap, ◌∙◌, subst, arith}
use Rattle.std.proofs.lemmas.Bool.{eq-eqb, cond-true}
use Rattle.std.proofs.lemmas.Bool.Decides.{nat_tests}
use Rattle.model.specs.declared.event.Action.{Action}
use Rattle.model.specs.declared.event.Event.{Event}
use Rattle.model.specs.declared.refusal.Refusal.TheVariants.{NotOwner}
use Rattle.order.specs.Order.{next, more, Owns, Disciplined}
use Rattle.order.specs.Test.{owner_of}
use Rattle.order.proofs.History.{none-not-some, nothing-not-some, at_new}
use Rattle.order.proofs.Owners.{owner-tells, owns-up, owns-old, disciplined-old, disciplined-new}
use Rattle.judge.specs.Judging.{acquiring, releasing, allowed}
use Rattle.judge.specs.Discipline.{DisciplineDecided}

-- an acquire is allowed where nobody owns the cell, a release where the board does
taken : (o : Option ℕ) (b : ℕ) → acquiring o b ≡ Ok tt → o ≡ None
taken None b q = refl
taken (Some p) b q = grind (arith, nat_tests)

held : (o : Option ℕ) (b : ℕ) → releasing o b ≡ Ok tt → o ≡ Some b
held None b q = cc
held (Some p) b q = grind (arith, nat_tests)

pub held_by : (b : ℕ) → releasing (Some b) b ≡ Ok tt
held_by b = cond-true (eqb b b) (Ok tt) (Err NotOwner) (eq-eqb b b refl)

module _ (h : List Event) (e : Event) where
  there : Disciplined (more h e) → allowed (owner_of h e.cell) e.board e.action ≡ Ok tt
  there d = go e.action refl
    where
      none : e.action ≡ Action.Acquire → (o : Option ℕ) → owner_of h e.cell ≡ o → o ≡ None
      none a None q = refl
      none a (Some p) q = absurd (d.acquires (next h) e (at_new h e) a p (owns-up h e e.cell p (next h) (omega arith) ((owner-tells h e.cell p).0 q)))

      go : (a : Action) → e.action ≡ a → allowed (owner_of h e.cell) e.board a ≡ Ok tt
      go (Action.Write w) a = refl
      go Action.Acquire a = ap (λ (o : Option ℕ). acquiring o e.board) (none a (owner_of h e.cell) refl)
      go Action.Release a = ap (λ (o : Option ℕ). releasing o e.board) ((owner-tells h e.cell e.board).1 (owns-old h e e.cell e.board (next h) (omega arith) (d.releases (next h) e (at_new h e) a))) ∙ held_by e.board

  back : Disciplined h → allowed (owner_of h e.cell) e.board e.action ≡ Ok tt → Disciplined (more h e)
  back d q = disciplined-new h e d free mine
    where
      is : {a : Action} → e.action ≡ a → allowed (owner_of h e.cell) e.board a ≡ Ok tt
      is {a} p = subst (λ (i : Action). allowed (owner_of h e.cell) e.board i ≡ Ok tt) p q

      free : e.action ≡ Action.Acquire → (b : ℕ) → Owns h e.cell b (next h) → ⊥
      free a b o = let z : ◌≡◌ {A = Option ℕ} (Some b) None = sym ((owner-tells h e.cell b).1 o) ∙ taken (owner_of h e.cell) e.board (is a) in nothing-not-some (sym z)

      mine : e.action ≡ Action.Release → Owns h e.cell e.board (next h)
      mine a = (owner-tells h e.cell e.board).0 (held (owner_of h e.cell) e.board (is a))

pub disciplined-none : Disciplined []
disciplined-none = record { acquires = λ n e a. absurd (none-not-some a); releases = λ n e a. absurd (none-not-some a) }

pub disciplined-more : (h : List Event) (e : Event) → Disciplined (more h e) ↔ (Disciplined h × (allowed (owner_of h e.cell) e.board e.action ≡ Ok tt))
disciplined-more h e = (λ d. (disciplined-old h e d, there h e d), λ (d, q). back h e d q)

pub discipline-decided : DisciplineDecided
unfolding DisciplineDecided
discipline-decided = (disciplined-none, disciplined-more)

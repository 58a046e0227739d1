-- What the answers on steps share.
use Rattle.std.proofs.Common.{◌≡◌, ℕ, suc, Bool, true, false, cond, eqb, ltb, List, [], ◌∷◌, Some, Ok, Err, Result, refl, ap, ◌∙◌, arith}
use Rattle.model.specs.declared.answer.Answer.{Answer}
use Rattle.model.specs.declared.carry.Carry.{Carry}
use Rattle.model.specs.declared.refusal.Refusal.{Refusal}
use Rattle.carries.specs.Lines.{line}
use Rattle.state.specs.Opening.{quiet}
use Rattle.state.specs.States.{State, cells_of}
use Rattle.state.specs.Steps.{Choice, Outcome, checked, refuse}
use Rattle.engine.specs.Parts.{checks, TakesBy}

-- a choice, where a step leaves nothing open
abbrev pub any : Choice
any = record { place = 0; board = 0; cell = 0 }

pub quiet-lines : (ls : List (List Carry)) → ((b : ℕ) → line ls b ≡ []) → quiet ls ≡ true
quiet-lines [] h = refl
quiet-lines ([] ∷ ls) h = quiet-lines ls (λ b. h (suc b))
quiet-lines ((x ∷ xs) ∷ ls) h = let e : (x ∷ xs) ≡ [] = h 0 in cc

-- the check of a board and a cell, before a step that is taken by any choice

abbrev verdict : Bool → Bool → Result (Unit {0}) Refusal
verdict t u = cond t (cond u (Ok tt) (Err Refusal.NoSuchCell)) (Err Refusal.NoSuchBoard)

module _ (s : State) (b c : ℕ) where
  check-refused : (t u : Bool) (x : Outcome) (e : Refusal) → Err e ≡ verdict t u → cond t (cond u x (refuse Refusal.NoSuchCell s)) (refuse Refusal.NoSuchBoard s) ≡ Some (Answer.Refused e, s)
  check-refused true true x e h = let z : ◌≡◌ {A = ℕ} 0 1 = cc in absurd (omega arith)
  check-refused true false x e h = let q : Refusal.NoSuchCell ≡ e = cc in ap (λ r. refuse r s) q
  check-refused false u x e h = let q : Refusal.NoSuchBoard ≡ e = cc in ap (λ r. refuse r s) q

  check-passed : (t u : Bool) (x : Outcome) → Ok tt ≡ verdict t u → cond t (cond u x (refuse Refusal.NoSuchCell s)) (refuse Refusal.NoSuchBoard s) ≡ x
  check-passed true true x h = refl
  check-passed true false x h = let z : ◌≡◌ {A = ℕ} 0 1 = cc in absurd (omega arith)
  check-passed false u x h = let z : ◌≡◌ {A = ℕ} 0 1 = cc in absurd (omega arith)

  pub refused : (f : Choice → Outcome) (e : Refusal) → Err e ≡ checks s b c → TakesBy (λ k. checked s b c (f k)) (Answer.Refused e) s
  refused f e h = (any, check-refused (ltb b s.boards) (ltb c (cells_of s)) (f any) e h)

  pub through : (f : Choice → Outcome) (a : Answer) (t : State) → Ok tt ≡ checks s b c → TakesBy f a t → TakesBy (λ k. checked s b c (f k)) a t
  through f a t h m = (m.0, check-passed (ltb b s.boards) (ltb c (cells_of s)) (f m.0) h ∙ m.1)

  pub plain : (x : Outcome) (a : Answer) (t : State) → Ok tt ≡ checks s b c → x ≡ Some (a, t) → TakesBy (λ k. checked s b c x) a t
  plain x a t h m = (any, check-passed (ltb b s.boards) (ltb c (cells_of s)) x h ∙ m)

-- Worked examples of the memory model, on one cell that starts with the word 0.
use Rattle.std.specs.Prelude.{ℕ, ◌<◌, List, [], ◌∷◌, ◌≢◌}
use Rattle.model.specs.declared.event.Action.{Action}
use Rattle.model.specs.declared.event.Event.{Event}
use Rattle.order.specs.Order.{Legal, Disciplined}
use Rattle.order.specs.Test.{LegalBy}

abbrev pub does : (b : ℕ) → Action → Event
does b a = record { board = b; cell = 0; action = a }

-- p acquires, writes 1 and releases; q writes 2 and acquires
abbrev pub hand_over : (p q : ℕ) → List Event
hand_over p q = does p Action.Acquire ∷ does p (Action.Write 1) ∷ does p Action.Release ∷ does q (Action.Write 2) ∷ does q Action.Acquire ∷ []

-- then q may read 1 (the write numbered 2) and 2 (the write numbered 4), and not the starting word
pub record HandedOver (p q : ℕ) : Type 0 where
  pub disciplined : Disciplined (hand_over p q)
  pub one : LegalBy (hand_over p q) 0 0 q 1 2
  pub two : LegalBy (hand_over p q) 0 0 q 2 4
  pub not_zero : Legal (hand_over p q) 0 0 q 0 → ⊥

pub record Worked : Type 0 where
  pub handed_over : (p q : ℕ) → p < 8 → q < 8 → (p ≢ q) → HandedOver p q
  -- board 1 only writes 2: it may still read the starting word, and 2
  pub lone_start : LegalBy (does 1 (Action.Write 2) ∷ []) 0 0 1 0 0
  pub lone_write : LegalBy (does 1 (Action.Write 2) ∷ []) 0 0 1 2 1
  -- board 0 writes 1, then 2: it may not read 1 any more
  pub twice : Legal (does 0 (Action.Write 1) ∷ does 0 (Action.Write 2) ∷ []) 0 0 0 1 → ⊥

-- shut, so that a search in a function that promises the examples does not open them
unfoldable pub Examples : Type 0
Examples = Worked

-- A bench as contracts see it.
use Rattle.std.specs.Prelude.{◌≡◌, ℕ, List}
use Rattle.model.specs.declared.carry.Carry.{Carry}
use Rattle.state.specs.Sound.{Sound}
use Rattle.state.specs.States.{State}

-- the state that it stands for, and the very home and path that it works on
pub record Seen (H P : Type 0) : Type 0 where
  pub state : State
  pub home : H
  pub path : P

-- What holds of every bench by its make: its state is sound, and is what its home and its path mean.
pub record IsWhole {H P : Type 0} (Words : H → List ℕ) (Lines : P → List (List Carry)) (n : ℕ) (b : Seen H P) : Type 0 where
  pub words : b.state.words ≡ Words b.home
  pub lines : b.state.lines ≡ Lines b.path
  pub long : b.state.long ≡ n
  pub sound : Sound b.state

-- the same of a bench before a call and after it
abbrev pub StaysWhole : {H P : Type 0} → (H → List ℕ) → (P → List (List Carry)) → ℕ → Seen H P → Seen H P → Type 0
StaysWhole Words Lines n b c = IsWhole Words Lines n b × IsWhole Words Lines n c

-- What the parts of a step promise, over states.
use Rattle.std.specs.Prelude.{◌≡◌, ℕ, cond, Some, Ok, Err, Result, nat_lt}
use Rattle.model.specs.declared.answer.Answer.{Answer}
use Rattle.model.specs.declared.entry.Entry.{Entry}
use Rattle.model.specs.declared.refusal.Refusal.{Refusal}
use Rattle.cache.specs.Places.{entry_in}
use Rattle.state.specs.States.{State, cells_of, cache_of, with_entry}
use Rattle.state.specs.Steps.{Choice, Outcome, new_entry}
use Rattle.engine.specs.declared.bench.access.Access.{Access}
use Rattle.model.specs.Answers.{answered}

-- the board and the cell are those of the bench
abbrev pub checks : State → ℕ → ℕ → Result (Unit {0}) Refusal
checks s b c = cond (nat_lt b s.boards) (cond (nat_lt c (cells_of s)) (Ok tt) (Err Refusal.NoSuchCell)) (Err Refusal.NoSuchBoard)

-- what is checked is the board and the cell that were named
abbrev pub Checked : State → ℕ → ℕ → Result Access Refusal → Type 0
Checked s b c (Ok at) = (at.board ≡ b) × (at.cell ≡ c) × (checks s b c ≡ Ok tt)
Checked s b c (Err e) = checks s b c ≡ Err e

-- what the board's cache has of the cell
abbrev pub entry_at : State → Access → Entry
entry_at s at = entry_in (cache_of s at.board) at.cell

-- a new entry is refused or takes some empty place, whatever the step then answers
abbrev pub Added : State → ℕ → ℕ → Entry → Result (Unit {0}) Refusal → State → Type 0
Added s b c e r t = (k : Choice) × ((a : Answer) → new_entry k s b c a e ≡ Some (answered a r, t))

-- some choice gives that answer and leaves t
abbrev pub TakesBy : (Choice → Outcome) → Answer → State → Type 0
TakesBy f a t = (k : Choice) × (f k ≡ Some (a, t))

-- the board's clean entry of the cell emptied
abbrev pub dropped : State → ℕ → ℕ → Entry → State
dropped s b c Entry.Invalid = s
dropped s b c (Entry.Clean w) = with_entry s b c Entry.Invalid
dropped s b c (Entry.Dirty w) = s

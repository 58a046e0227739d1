-- The last place of a list whose element passes a test, and the test for a record of a board and a cell.
use Rattle.std.specs.Prelude.{ℕ, suc, Bool, cond, ◌&&◌, List, [], ◌∷◌, Some, None, Option, ◌==◌}

-- whether a record that tells its board and cell is of board b and cell c
abbrev pub is_of : {X : Type 0} → (X → ℕ) → (X → ℕ) → ℕ → ℕ → X → Bool
is_of board_of cell_of b c x = board_of x == b && cell_of x == c

-- a place in the rest of a list, counted from the list's own start; or else the other answer
abbrev pub one_on : Option ℕ → Option ℕ → Option ℕ
one_on (Some i) o = Some (suc i)
one_on None o = o

abbrev pub last_place : {X : Type 0} → (X → Bool) → List X → Option ℕ
last_place p [] = None
last_place p (x ∷ xs) = one_on (last_place p xs) (cond (p x) (Some 0) None)

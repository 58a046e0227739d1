-- Carries of all boards that stand together in the order started, and the eight lines that they make.
use Rattle.std.specs.Prelude.{ℕ, ◌≤◌, Bool, cond, ◌&&◌, List, [], ◌∷◌, map, length, filter, ◌==◌, nat_eq, nat_lt}
use Rattle.std.specs.List.{range_with_len, list_all}
use Rattle.model.specs.declared.carry.Carry.{Carry}

-- those of board b
abbrev pub line_of : ℕ → List Carry → List Carry
line_of b xs = filter (λ x. nat_eq x.board b) xs

unfoldable pub lines_of : List Carry → List (List Carry)
lines_of xs = map (λ b. line_of b xs) (range_with_len 0 8)

-- whether each is of a board and a cell that exist
abbrev pub located : List Carry → Bool
located xs = list_all (λ x. nat_lt x.board 8 && nat_lt x.cell 64) xs

-- no board has more than n
abbrev pub Short : ℕ → List Carry → Type 0
Short n xs = (b : ℕ) → length (line_of b xs) ≤ n

-- without the first carry of board b
abbrev pub without_first : ℕ → List Carry → List Carry
without_first b [] = []
without_first b (x ∷ xs) = cond (x.board == b) xs (x ∷ without_first b xs)

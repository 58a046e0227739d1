-- The meaning of a path: eight lines of carries, one for each board, and what each call answers and leaves of them.
use Rattle.std.specs.Prelude.{◌≡◌, ℕ, ◌≤◌, Bool, cond, List, [], ◌∷◌, ◌++◌, length, Some, None, Ok, Err, filter, Option, Result, nat_lt, slice_index_or, slice_set}
use Rattle.std.specs.List.{last_or, AllByRecursion, slice_get}
use Rattle.model.specs.Search.{is_of}
use Rattle.model.specs.declared.carry.Carry.{Carry}
use Rattle.model.specs.declared.refusal.Refusal.{Refusal}
use Rattle.model.specs.declared.refusal.Refusal.TheVariants.{NoSuchBoard, NoSuchCell, LineFull}

-- the line of board b: its carries that wait, in the order started
abbrev pub line : List (List Carry) → ℕ → List Carry
line ls b = slice_index_or ls b []

-- whether a carry is of board b and cell c
abbrev pub of_lane : ℕ → ℕ → Carry → Bool
of_lane b c = is_of (λ (x : Carry). x.board) (λ (x : Carry). x.cell) b c

-- a lane: the carries of one board and one cell
abbrev pub lane : List (List Carry) → ℕ → ℕ → List Carry
lane ls b c = filter (of_lane b c) (line ls b)

abbrev pub oldest : List Carry → Option Carry
oldest xs = slice_get xs 0

abbrev pub newest : List Carry → Option Carry
newest xs = last_or None xs

-- a call about board b and cell c answers r, unless there is no such board, or else no such cell
abbrev pub checked : {X : Type 0} → ℕ → ℕ → Result X Refusal → Result X Refusal
checked b c r = cond (nat_lt 7 b) (Err NoSuchBoard) (cond (nat_lt 63 c) (Err NoSuchCell) r)

-- a line that one more carry has joined; every start goes through here
abbrev pub joined : List Carry → Carry → List Carry
joined xs x = xs ++ x ∷ []

-- starting a carry where a line holds n carries at most
abbrev pub start_at : ℕ → List (List Carry) → Carry → Result (Unit {0}) Refusal
start_at n ls x = checked x.board x.cell (cond (nat_lt (length (line ls x.board)) n) (Ok tt) (Err LineFull))

abbrev pub if_started : {X : Type 0} → Result (Unit {0}) Refusal → X → X → X
if_started (Ok _) new old = new
if_started (Err _) new old = old

-- a carry that is started joins its board's line; a refused one changes nothing
abbrev pub started : ℕ → List (List Carry) → Carry → List (List Carry)
started n ls x = if_started (start_at n ls x) (slice_set ls x.board (joined (line ls x.board) x)) ls

abbrev pub newest_at : List (List Carry) → ℕ → ℕ → Result (Option Carry) Refusal
newest_at ls b c = checked b c (Ok (newest (lane ls b c)))

abbrev pub count_at : List (List Carry) → ℕ → Result ℕ Refusal
count_at ls b = cond (nat_lt 7 b) (Err NoSuchBoard) (Ok (length (line ls b)))

-- a line without the oldest carry of board b and cell c
abbrev pub without : ℕ → ℕ → List Carry → List Carry
without b c [] = []
without b c (x ∷ xs) = cond (of_lane b c x) xs (x ∷ without b c xs)

-- A landing answers the oldest carry of some lane and takes that one away, or answers that nothing waits; which lane
-- it is, is the path's own choice.
abbrev pub Landed : List (List Carry) → Option Carry → List (List Carry) → Type 0
Landed ls None ls' = ((b : ℕ) → line ls b ≡ []) × (ls' ≡ ls)
Landed ls (Some x) ls' =
    (oldest (lane ls x.board x.cell) ≡ Some x)
    × (ls' ≡ slice_set ls x.board (without x.board x.cell (line ls x.board)))

-- What holds of the lines of every path, whatever was done to it: there are eight, each has carries of its own board
-- only and of cells that exist, and none has more than n.
pub record Proper (n : ℕ) (ls : List (List Carry)) : Type 0 where
  pub eight : length ls ≡ 8
  pub own : (b : ℕ) → AllByRecursion (λ x. (x.board ≡ b) × (x.cell ≤ 63)) (line ls b)
  pub short : (b : ℕ) → length (line ls b) ≤ n

-- A landing by turns: which board's turn it is, what a landing answers, and the lines and the turn after it.
use Rattle.std.specs.Prelude.{◌≡◌, ℕ, ◌+◌, ◌-◌, ◌<◌, Bool, true, false, cond, ◌||◌, List, [], ◌∷◌, ◌++◌, length, drop, is_some, Some, None, Option, ◌==◌, nat_lt, slice_index, slice_set}
use Rattle.std.specs.List.{range_with_len, find}
use Rattle.model.specs.declared.carry.Carry.{Carry}
use Rattle.carries.specs.Lines.{line, oldest, started, Landed}

-- the turns that every rota follows: whose each of them is
abbrev pub fixed_turns : List ℕ
fixed_turns = 0 ∷ 1 ∷ 2 ∷ 3 ∷ 4 ∷ 5 ∷ 6 ∷ 7 ∷ 0 ∷ 1 ∷ 2 ∷ 3 ∷ 0 ∷ 1 ∷ 0 ∷ 1 ∷ []

-- whether board b has a turn
abbrev pub occurs : ℕ → List ℕ → Bool
occurs b [] = false
occurs b (t ∷ ts) = t == b || occurs b ts

-- every board has one
abbrev pub EveryBoard : List ℕ → Type 0
EveryBoard ts = (b : ℕ) → b < 8 → occurs b ts ≡ true

-- whether a line has a carry
abbrev pub waits : List Carry → Bool
waits [] = false
waits (x ∷ xs) = true

-- whether the board of turn i has a carry
abbrev pub can_land : List ℕ → List (List Carry) → ℕ → Bool
can_land ts ls i = waits (line ls (slice_index ts i))

-- the numbers of the n turns as they come round from turn t
abbrev pub coming_round : ℕ → ℕ → List ℕ
coming_round n t = range_with_len t (n - t) ++ range_with_len 0 t

-- the first of them whose board has a carry
abbrev pub turn_to_land : List ℕ → List (List Carry) → ℕ → Option ℕ
turn_to_land ts ls t = find (can_land ts ls) (coming_round (length ts) t)

-- the turn after turn i
abbrev pub turn_after : List ℕ → ℕ → ℕ
turn_after ts i = cond (nat_lt (i + 1) (length ts)) (i + 1) 0

-- a landing: its answer, and the lines and the turn after it
pub record Landing : Type 0 where
  pub carry : Option Carry
  pub lines : List (List Carry)
  pub turn : ℕ

-- turn i lands the oldest carry of its board's line; where nobody's turn has a carry, nothing changes
abbrev pub landing_at : List ℕ → List (List Carry) → ℕ → Option ℕ → Landing
landing_at ts ls t None = record { carry = None; lines = ls; turn = t }
landing_at ts ls t (Some i) =
    record {
      carry = oldest (line ls (slice_index ts i));
      lines = slice_set ls (slice_index ts i) (drop 1 (line ls (slice_index ts i)));
      turn = turn_after ts i;
    }

abbrev pub landing : List ℕ → List (List Carry) → ℕ → Landing
landing ts ls t = landing_at ts ls t (turn_to_land ts ls t)

-- What a rota does with its carries, from lines ls at turn t to lines ls' at turn t'.

-- a start joins a line, and the turn stays
abbrev pub StartsInLine : List (List Carry) → ℕ → Carry → List (List Carry) → ℕ → Type 0
StartsInLine ls t x ls' t' = (ls' ≡ started 4 ls x) × (t' ≡ t)

abbrev pub LandsByTurn : List (List Carry) → ℕ → Option Carry → List (List Carry) → ℕ → Type 0
LandsByTurn ls t r ls' t' = (r ≡ (landing fixed_turns ls t).carry) × (ls' ≡ (landing fixed_turns ls t).lines) × (t' ≡ (landing fixed_turns ls t).turn)

-- what a landing relies on of the turn found
abbrev pub Served : List ℕ → List (List Carry) → Option ℕ → Type 0
Served ts ls None = Landed ls None ls
Served ts ls (Some i) = (i < length ts) × (is_some (oldest (line ls (slice_index ts i))) ≡ true)

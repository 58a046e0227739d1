-- What a source answers and what a home becomes, by the list of words that each means.
use Rattle.std.specs.Prelude.{◌≡◌, ℕ, cond, List, length, Ok, Err, Result, ◌≢◌, nat_lt, slice_index, slice_set}
use Rattle.model.specs.declared.refusal.Refusal.{Refusal}
use Rattle.model.specs.declared.refusal.Refusal.TheVariants.{NoSuchCell}

-- reading cell c answers word c; there is no other refusal than for a cell at or past the size
abbrev pub read_at : List ℕ → ℕ → Result ℕ Refusal
read_at ws c = cond (nat_lt c (length ws)) (Ok (slice_index ws c)) (Err NoSuchCell)

abbrev pub write_at : List ℕ → ℕ → Result (Unit {0}) Refusal
write_at ws c = cond (nat_lt c (length ws)) (Ok tt) (Err NoSuchCell)

-- writing cell c replaces word c alone; a refused write changes nothing
abbrev pub written : List ℕ → ℕ → ℕ → List ℕ
written ws c w = cond (nat_lt c (length ws)) (slice_set ws c w) ws

-- what cell c reads after the word w is written to it
abbrev pub read_back : List ℕ → ℕ → ℕ → Result ℕ Refusal
read_back ws c w = cond (nat_lt c (length ws)) (Ok w) (Err NoSuchCell)

-- every cell but c reads in the second list as in the first
abbrev pub OthersKept : List ℕ → List ℕ → ℕ → Type 0
OthersKept ws ws' c = (k : ℕ) → (k ≢ c) → read_at ws' k ≡ read_at ws k

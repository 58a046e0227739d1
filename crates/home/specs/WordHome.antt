-- The words of a list that the caller provides.
use Rattle.std.specs.Prelude.{ℕ, cond, List, length, take, nat_lt, slice_set}

-- the words that count: of a longer list the first 65,536
unfoldable pub counted : List ℕ → List ℕ
counted ws = take 65536 ws

-- the caller's list after a write: what does not count stays as it was
abbrev pub listed : List ℕ → ℕ → ℕ → List ℕ
listed ws c w = cond (nat_lt c (length (counted ws))) (slice_set ws c w) ws

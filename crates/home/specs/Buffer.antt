-- The words below a buffer with the pairs that it holds written over them.
use Rattle.std.specs.Prelude.{◌≡◌, ℕ, ◌%◌, ◌<◌, Bool, true, cond, List, map, length, Some, None, Option, ◌==◌, nat_lt, slice_index, slice_index_or, slice_set}
use Rattle.std.specs.List.{range_with_len}
use Rattle.std.specs.Option.{unwrap_or}
use Rattle.home.specs.declared.pair.Pair.{Pair}
use Rattle.home.specs.Words.{written}

-- a pair belongs in the place of its cell, the cell modulo 8
abbrev pub own : ℕ → Option Pair → Bool
own i (Some p) = p.cell % 8 == i
own i None = true

abbrev pub Own : List (Option Pair) → Type 0
Own ps = (i : ℕ) → i < 8 → own i (slice_index_or ps i None) ≡ true

-- the word that a place holds for cell c
abbrev pub held_for : Option Pair → ℕ → Option ℕ
held_for (Some p) c = cond (p.cell == c) (Some p.word) None
held_for None c = None

-- each word below, unless the cell's place holds another for it
unfoldable pub overlay : List ℕ → List (Option Pair) → List ℕ
overlay ws ps = map (λ c. unwrap_or (held_for (slice_index_or ps (c % 8) None) c) (slice_index ws c)) (range_with_len 0 (length ws))

-- the words below once the pair of another cell than c is sent
abbrev pub sent : List ℕ → Option Pair → ℕ → List ℕ
sent ws (Some p) c = cond (p.cell == c) ws (written ws p.cell p.word)
sent ws None c = ws

-- after a write to cell c: what is below, and what is held. Outside the memory nothing changes
abbrev pub below_after : List ℕ → List (Option Pair) → ℕ → List ℕ
below_after ws ps c = cond (nat_lt c (length (overlay ws ps))) (sent ws (slice_index_or ps (c % 8) None) c) ws

abbrev pub pair_of : ℕ → ℕ → Pair
pair_of c w = record { cell = c; word = w }

abbrev pub held_after : List ℕ → List (Option Pair) → ℕ → ℕ → List (Option Pair)
held_after ws ps c w = cond (nat_lt c (length (overlay ws ps))) (slice_set ps (c % 8) (Some (pair_of c w))) ps

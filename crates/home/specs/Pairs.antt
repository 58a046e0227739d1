-- A list of pairs of cell and word, and the words that it stands for.
use Rattle.std.specs.Prelude.{ℕ, Bool, List, map, Option, ◌==◌, ◌≢◌, nat_lt, find, unwrap_or, AllPairs}
use Rattle.std.specs.List.{range_with_len, list_all}
use Rattle.std.specs.Option.{option_map}
use Rattle.home.specs.declared.pair.Pair.{Pair}

-- the word of cell c
abbrev pub word_in : List Pair → ℕ → Option ℕ
word_in ps c = option_map (λ p. p.word) (find (λ p. p.cell == c) ps)

-- n words: the pairs', and the starting word for every other cell
unfoldable pub pair_words : ℕ → ℕ → List Pair → List ℕ
pair_words n start ps = map (λ c. unwrap_or (word_in ps c) start) (range_with_len 0 n)

-- every pair's cell is below n
abbrev pub within : ℕ → List Pair → Bool
within n ps = list_all (λ p. nat_lt p.cell n) ps

-- no cell has two pairs
abbrev pub Once : List Pair → Type 0
Once ps = AllPairs (λ c d. c ≢ d) (map (λ p. p.cell) ps)

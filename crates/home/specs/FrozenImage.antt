-- The words of a frozen image: four bytes each, the highest first.
use Rattle.std.specs.Prelude.{ℕ, ◌+◌, ◌*◌, ◌/◌, min, List, map, length, slice_index}
use Rattle.std.specs.List.{range_with_len}

-- the word in the four bytes from i on
abbrev pub word_from : List ℕ → ℕ → ℕ
word_from bs i = slice_index bs i * 16777216 + slice_index bs (i + 1) * 65536 + slice_index bs (i + 2) * 256 + slice_index bs (i + 3)

-- as many cells as whole words, and at most 65,536
unfoldable pub image_of : List ℕ → List ℕ
image_of bs = map (λ c. word_from bs (4 * c)) (range_with_len 0 (min 65536 (length bs / 4)))

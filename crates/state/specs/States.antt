-- A bench as its rules see it.
use Rattle.std.specs.Prelude.{ℕ, min, List, [], length, None, Option, slice_index, slice_index_or, slice_set}
use Rattle.model.specs.declared.carry.Carry.{Carry}
use Rattle.model.specs.declared.entry.Entry.{Entry}
use Rattle.model.specs.declared.refusal.Refusal.{Refusal}
use Rattle.cache.specs.declared.place.Place.{Place}
use Rattle.cache.specs.Places.{place_for, replace_in}

-- Why its opening was refused, if it was; how many boards it has, how many entries a cache may have, and how many
-- carries a line; the places of each board's cache, each cell's owner, the home's words, and the path's lines.
pub record State : Type 0 where
  pub refusal : Option Refusal
  pub boards : ℕ
  pub entries : ℕ
  pub long : ℕ
  pub caches : List (List Place)
  pub owners : List (Option ℕ)
  pub words : List ℕ
  pub lines : List (List Carry)

-- the cells of a bench are those of its home, at most 64
abbrev pub cells_of : State → ℕ
cells_of s = min 64 (length s.words)

abbrev pub cache_of : State → ℕ → List Place
cache_of s b = slice_index_or s.caches b []

abbrev pub owner_of : State → ℕ → Option ℕ
owner_of s c = slice_index_or s.owners c None

abbrev pub word_of : State → ℕ → ℕ
word_of s c = slice_index s.words c

-- the state with one part changed

abbrev pub with_caches : State → List (List Place) → State
with_caches s x = record { refusal = s.refusal; boards = s.boards; entries = s.entries; long = s.long; caches = x; owners = s.owners; words = s.words; lines = s.lines }

abbrev pub with_owners : State → List (Option ℕ) → State
with_owners s x = record { refusal = s.refusal; boards = s.boards; entries = s.entries; long = s.long; caches = s.caches; owners = x; words = s.words; lines = s.lines }

abbrev pub with_words : State → List ℕ → State
with_words s x = record { refusal = s.refusal; boards = s.boards; entries = s.entries; long = s.long; caches = s.caches; owners = s.owners; words = x; lines = s.lines }

abbrev pub with_lines : State → List (List Carry) → State
with_lines s x = record { refusal = s.refusal; boards = s.boards; entries = s.entries; long = s.long; caches = s.caches; owners = s.owners; words = s.words; lines = x }

abbrev pub with_cache : State → ℕ → List Place → State
with_cache s b ps = with_caches s (slice_set s.caches b ps)

abbrev pub with_owner : State → ℕ → Option ℕ → State
with_owner s c o = with_owners s (slice_set s.owners c o)

-- the board's entry of cell c, which has one, becomes e
abbrev pub with_entry : State → ℕ → ℕ → Entry → State
with_entry s b c e = with_cache s b (replace_in (cache_of s b) c (place_for c e))

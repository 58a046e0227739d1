-- A cache by its table of places, and the caches of the eight boards by the list of their tables.
use Rattle.std.specs.Prelude.{ℕ, zero, suc, List, [], ◌∷◌, Some, None, Option}
use Rattle.cache.specs.declared.place.Place.{Place}
use Rattle.cache.specs.declared.cache.Cache.{Cache}
use Rattle.cache.specs.declared.caches.Caches.{Caches}

abbrev pub table_of : Cache → List Place
table_of c = c.places.at

abbrev pub tables : Caches → List (List Place)
tables c = table_of c.c0 ∷ table_of c.c1 ∷ table_of c.c2 ∷ table_of c.c3 ∷ table_of c.c4 ∷ table_of c.c5 ∷ table_of c.c6 ∷ table_of c.c7 ∷ []

-- the table of board b, if there is one
abbrev pub table_at : List (List Place) → ℕ → Option (List Place)
table_at [] b = None
table_at (t ∷ ts) zero = Some t
table_at (t ∷ ts) (suc b) = table_at ts b

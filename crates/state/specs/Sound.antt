-- What holds of every state that a bench can be in.
use Rattle.std.specs.Prelude.{◌≡◌, ◌≤◌, List, length}
use Rattle.std.specs.List.{AllByRecursion}
use Rattle.carries.specs.Lines.{Proper}
use Rattle.cache.specs.declared.place.Place.{Place}
use Rattle.cache.specs.Places.{Distinct}
use Rattle.state.specs.States.{State}

-- the places of a cache: eight, and no cell stands in two
abbrev pub IsCache : List Place → Type 0
IsCache ps = (length ps ≡ 8) × Distinct ps

-- by the make of its parts alone
pub record Sound (s : State) : Type 0 where
  pub boards : s.boards ≤ 8
  pub entries : s.entries ≤ 8
  pub caches : length s.caches ≡ 8
  pub places : AllByRecursion IsCache s.caches
  pub owners : length s.owners ≡ 64
  pub lines : Proper s.long s.lines

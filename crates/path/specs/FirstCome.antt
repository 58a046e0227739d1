-- The path that lands what was started first: what it does with the carries of its table.
use Rattle.std.specs.Prelude.{◌≡◌, ℕ, [], ◌∷◌, ◌++◌, drop, Option}
use Rattle.model.specs.declared.carry.Carry.{Carry}
use Rattle.carries.specs.Held.{held, lines_in}
use Rattle.carries.specs.Lines.{oldest, start_at, if_started}
use Rattle.carries.specs.declared.table.Table.{Table}

-- from table t to table u: a carry that is accepted stands behind all others; a refused one changes nothing
abbrev pub StartsLast : {n : ℕ} → Table n → Carry → Table n → Type 0
StartsLast t x u = held u ≡ if_started (start_at 8 (lines_in t) x) (held t ++ x ∷ []) (held t)

-- the carry that was started earliest of all lands, if any waits
abbrev pub LandsEarliest : {n : ℕ} → Table n → Option Carry → Table n → Type 0
LandsEarliest t r u = (r ≡ oldest (held t)) × (held u ≡ drop 1 (held t))

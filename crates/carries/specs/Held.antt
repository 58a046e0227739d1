-- What a table holds.
use Rattle.std.specs.Prelude.{ℕ, List}
use Rattle.model.specs.declared.carry.Carry.{Carry}
use Rattle.carries.specs.Tables.{lines_of}
use Rattle.carries.specs.declared.table.Table.{Table}

-- the carries of a table, in the order started
abbrev pub held : {n : ℕ} → Table n → List Carry
held t = t.carries.items

-- its lines
abbrev pub lines_in : {n : ℕ} → Table n → List (List Carry)
lines_in t = lines_of (held t)

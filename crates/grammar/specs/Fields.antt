-- What a header line says.
use Rattle.std.specs.Prelude.{ℕ, cond, ◌&&◌, List, [], ◌∷◌, Some, None, Ok, Err, codes, Option, Result, ◌==◌, nat_le}
use Rattle.std.specs.Str.{bytes_eq}
use Rattle.model.specs.declared.refusal.Refusal.{Refusal}
use Rattle.model.specs.declared.refusal.Refusal.TheVariants.{MalformedLine, SizeOutOfRange}
use Rattle.grammar.specs.declared.kind.Kind.{Kind}
use Rattle.grammar.specs.declared.kind.Kind.TheVariants.{Run, Log}
use Rattle.grammar.specs.Numbers.{and_then, whole}
use Rattle.grammar.specs.Pieces.{Piece, field_of}

abbrev pub kind_of : List ℕ → Option Kind
kind_of l = cond (bytes_eq l (codes "trace=run")) (Some Run) (cond (bytes_eq l (codes "trace=log")) (Some Log) None)

-- what follows p at the front of a line
abbrev pub after : List ℕ → List ℕ → Option (List ℕ)
after [] l = Some l
after (c ∷ p) [] = None
after (c ∷ p) (d ∷ l) = cond (c == d) (after p l) None

-- the number of a header line that begins with p, the field's name and its equals sign
abbrev pub number_after : List ℕ → List ℕ → Option ℕ
number_after p l = and_then (after p l) whole

-- the kind that is wanted, and no other
abbrev pub wanted : Kind → Option Kind → Result (Unit {0}) Refusal
wanted Run (Some Run) = Ok tt
wanted Run (Some Log) = Err MalformedLine
wanted Log (Some Run) = Err MalformedLine
wanted Log (Some Log) = Ok tt
wanted k None = Err MalformedLine

abbrev pub kind_said : Kind → Option Piece → Result (Unit {0}) Refusal
kind_said k o = wanted k (and_then (and_then o field_of) kind_of)

abbrev pub ranged : ℕ → ℕ → Option ℕ → Result ℕ Refusal
ranged low high (Some n) = cond (nat_le low n && nat_le n high) (Ok n) (Err SizeOutOfRange)
ranged low high None = Err MalformedLine

-- a number from low to high after p, the field's name and its equals sign
abbrev pub number_said : List ℕ → ℕ → ℕ → Option Piece → Result ℕ Refusal
number_said p low high o = ranged low high (and_then (and_then o field_of) (number_after p))

-- What a line is: a remark, a step or a header field. A line of none of these forms is no piece.
use Rattle.std.specs.Prelude.{ℕ, Bool, true, false, cond, ◌||◌, List, [], ◌∷◌, Some, None, Option, ◌==◌}
use Rattle.grammar.specs.declared.item.Item.{Item}
use Rattle.grammar.specs.declared.item.Item.TheVariants.{Remark, Step, Field}

pub data Piece : Type 0 where
  remark : List ℕ → Piece
  step : ℕ → List ℕ → Piece
  field : List ℕ → Piece

-- an item by what its part of the bytes holds
abbrev pub shown : Item → Piece
shown (Remark text) = remark text.now
shown (Step letter rest) = step letter rest.now
shown (Field line) = field line.now

abbrev pub holds : ℕ → List ℕ → Bool
holds b [] = false
holds b (c ∷ cs) = c == b || holds b cs

-- any other line with an equals sign is taken for a header field
abbrev pub field_piece : List ℕ → Option Piece
field_piece l = cond (holds 61 l) (Some (field l)) None

-- one letter, an equals sign and the rest
abbrev pub letter_and_rest : List ℕ → Option (ℕ × List ℕ)
letter_and_rest [] = None
letter_and_rest (c ∷ []) = None
letter_and_rest (c ∷ d ∷ cs) = cond (d == 61) (Some (c, cs)) None

abbrev pub step_or_field : List ℕ → Option (ℕ × List ℕ) → Option Piece
step_or_field l (Some p) = Some (step p.0 p.1)
step_or_field l None = field_piece l

abbrev pub plain_piece : List ℕ → Option Piece
plain_piece l = step_or_field l (letter_and_rest l)

-- a line that starts with # is a remark, whatever follows
abbrev pub piece : List ℕ → Option Piece
piece [] = plain_piece []
piece (c ∷ cs) = cond (c == 35) (Some (remark cs)) (plain_piece (c ∷ cs))

abbrev pub is_remark : Option Piece → Bool
is_remark None = false
is_remark (Some (remark r)) = true
is_remark (Some (step c r)) = false
is_remark (Some (field l)) = false

-- the line of a header field, and the letter and the rest of a step
abbrev pub field_of : Piece → Option (List ℕ)
field_of (field l) = Some l
field_of (remark r) = None
field_of (step c r) = None

abbrev pub step_parts : Piece → Option (ℕ × List ℕ)
step_parts (step c r) = Some (c, r)
step_parts (remark r) = None
step_parts (field l) = None

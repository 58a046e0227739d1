-- What a reader has before it.
use Rattle.std.specs.Prelude.{◌≡◌, ℕ, ◌+◌, ◌≤◌, Bool, true, false, List, [], ◌∷◌, length, drop, None, Option}
use Rattle.grammar.specs.Numbers.{and_then}
use Rattle.grammar.specs.Pieces.{Piece, piece}
use Rattle.text.specs.declared.position.Position.{Position}
use Rattle.text.specs.declared.reader.Reader.{Reader}
use Rattle.text.specs.Lines.{lines}
use Rattle.text.specs.Telling.{Left, left_from}

-- the lines from a position on
abbrev pub lines_at : List ℕ → Position → List (Option (List ℕ))
lines_at text p = lines (drop p.byte text)

abbrev pub lines_ahead : Reader → List (Option (List ℕ))
lines_ahead r = lines_at r.text.now r.at

abbrev pub left : Reader → Left
left r = left_from (r.at.line + 1) (lines_ahead r)

abbrev pub first_line : List (Option (List ℕ)) → Option (List ℕ)
first_line [] = None
first_line (l ∷ ls) = l

abbrev pub later_lines : List (Option (List ℕ)) → List (Option (List ℕ))
later_lines [] = []
later_lines (l ∷ ls) = ls

abbrev pub no_lines : List (Option (List ℕ)) → Bool
no_lines [] = true
no_lines (l ∷ ls) = false

-- the form of the next line
abbrev pub first_piece : List (Option (List ℕ)) → Option Piece
first_piece ls = and_then (first_line ls) piece

-- one line further on in a text
pub record Further (text : List ℕ) (old new : Position) : Type 0 where
  pub lines_left : lines_at text new ≡ later_lines (lines_at text old)
  pub one_more : new.line ≡ old.line + 1
  pub within : new.byte ≤ length text
  pub counted : new.line ≤ new.byte

-- the same text at the same position
pub record Kept (old new : Reader) : Type 0 where
  pub same : new.text ≡ old.text
  pub back : new.at ≡ old.at

-- the same text, one line further on
pub record Passed (old new : Reader) : Type 0 where
  pub same : new.text ≡ old.text
  pub lines_left : lines_ahead new ≡ later_lines (lines_ahead old)
  pub one_more : new.at.line ≡ old.at.line + 1

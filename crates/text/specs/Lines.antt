-- A text as a list of lines.
use Rattle.std.specs.Prelude.{ℕ, cond, List, [], ◌∷◌, length, Some, None, Option, ◌==◌, nat_lt}

-- one byte more at the front of the first line
abbrev pub grown : ℕ → List (Option (List ℕ)) → List (Option (List ℕ))
grown c [] = None ∷ []
grown c (None ∷ ls) = None ∷ ls
grown c (Some l ∷ ls) = Some (c ∷ l) ∷ ls

-- the lines of a text, each without its byte 10; what has none at its end is no line, and stands as None
abbrev pub lines : List ℕ → List (Option (List ℕ))
lines [] = []
lines (c ∷ cs) = cond (c == 10) (Some [] ∷ lines cs) (grown c (lines cs))

-- of a text of more than 60,000 bytes no line is read
abbrev pub readable : List ℕ → List ℕ
readable text = cond (nat_lt 60000 (length text)) [] text

-- What the lines of a text tell once the remarks are left out: each line that is none, under its number.
use Rattle.std.specs.Prelude.{◌≡◌, ℕ, ◌+◌, cond, List, [], ◌∷◌, length, Some, None, Ok, Err, Option, Result}
use Rattle.model.specs.declared.refusal.Refusal.{Refusal}
use Rattle.model.specs.declared.refusal.Refusal.TheVariants.{MalformedLine}
use Rattle.grammar.specs.declared.item.Item.{Item}
use Rattle.grammar.specs.Numbers.{and_then}
use Rattle.grammar.specs.Pieces.{Piece, piece, shown, is_remark}
use Rattle.text.specs.declared.fault.Fault.{Fault}
use Rattle.text.specs.Faults.{fault_at}

-- None where the line is of no form or does not end
pub record Told : Type 0 where
  pub line : ℕ
  pub says : Option Piece

-- of lines of which the first has the number n
abbrev pub told : ℕ → List (Option (List ℕ)) → List Told
told n [] = []
told n (l ∷ ls) =
    cond (is_remark (and_then l piece)) (told (n + 1) ls) (record { line = n; says = and_then l piece } ∷ told (n + 1) ls)

-- what is left of a text: what its lines tell, and the number of the line after the last
pub record Left : Type 0 where
  pub telling : List Told
  pub end : ℕ

abbrev pub left_from : ℕ → List (Option (List ℕ)) → Left
left_from n ls = record { telling = told n ls; end = n + length ls }

-- the next line taken for what f makes of it, and what is then left; a line that f refuses is a fault at that line and
-- stays, and where no line is left there is a fault at the line after the last
abbrev pub answered : {X : Type 0} → Result X Refusal → Told → List Told → ℕ → Result X Fault × Left
answered (Ok x) t ts e = (Ok x, record { telling = ts; end = e })
answered (Err r) t ts e = (Err (fault_at r t.line), record { telling = t ∷ ts; end = e })

abbrev pub taking : {X : Type 0} → (Option Piece → Result X Refusal) → List Told → ℕ → Result X Fault × Left
taking f [] e = (Err (fault_at MalformedLine e), record { telling = []; end = e })
taking f (t ∷ ts) e = answered (f t.says) t ts e

abbrev pub taken : {X : Type 0} → (Option Piece → Result X Refusal) → Left → Result X Fault × Left
taken f a = taking f a.telling a.end

-- what is made of a line is what f makes of its form; f makes nothing of a line without one
pub record Says {X : Type 0} (post : Item → Result X Refusal → Type 0) (f : Option Piece → Result X Refusal) : Type 0 where
  pub strict : f None ≡ Err MalformedLine
  pub of_form : (item : Item) (r : Result X Refusal) → post item r → r ≡ f (Some (shown item))

-- A line that is printed behind others.
use Rattle.std.proofs.Common.{◌≡◌, ℕ, List, [], ◌∷◌, ◌++◌, sym, refl, ap, ◌∙◌}
use Rattle.std.proofs.lemmas.List.{append_assoc}
use Rattle.text.specs.Printing.{text_of}

pub line_behind : (ls : List (List ℕ)) (l : List ℕ) → text_of (ls ++ l ∷ []) ≡ text_of ls ++ (l ++ 10 ∷ [])
line_behind [] l = refl
line_behind (k ∷ ls) l = ap (λ t. k ++ 10 ∷ t) (line_behind ls l) ∙ sym (append_assoc k (10 ∷ text_of ls) (l ++ 10 ∷ []))

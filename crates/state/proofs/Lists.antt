-- What holds of each element of a list: of its parts, and of one element repeated.
use Rattle.std.proofs.Common.{ℕ, zero, suc, List, [], ◌∷◌, ◌++◌, get_or, replicate}
use Rattle.std.proofs.lemmas.List.Elements.{All-replicate, recursion_from_All}
use Rattle.std.specs.List.{AllByRecursion}

-- what holds of all holds of each part
pub all-parts : {X : Type 0} (P : X → Type 0) (xs ys : List X) → AllByRecursion P (xs ++ ys) → AllByRecursion P xs × AllByRecursion P ys
all-parts P [] ys all = (tt, all)
all-parts P (x ∷ xs) ys all = let rest = all-parts P xs ys all.1 in ((all.0, rest.0), rest.1)

pub all_alike : {X : Type 0} (P : X → Type 0) (n : ℕ) (x : X) → P x → AllByRecursion P (replicate n x)
all_alike P n x p = recursion_from_All P (replicate n x) (All-replicate P n x p)

-- every element of a list of equal ones, and what stands past its end
pub each-alike : {X : Type 0} (P : X → Type 0) (n : ℕ) (x d : X) → P x → P d → (i : ℕ) → P (get_or (replicate n x) i d)
each-alike P zero x d p q i = q
each-alike P (suc n) x d p q zero = p
each-alike P (suc n) x d p q (suc i) = each-alike P n x d p q i

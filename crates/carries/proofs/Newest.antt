-- The last of the elements that pass a test stands in the last place that passes it.
use Rattle.std.proofs.Common.{◌≡◌, ℕ, suc, ◌<◌, Bool, true, false, cond, List, [], ◌∷◌, length, get_or, Some, None, filter, Option, sym, refl, ap, ◌∙◌, subst, arith}
use Rattle.std.specs.List.{last_or, slice_get}
use Rattle.std.proofs.lemmas.Option.{slice_get-get_or}
use Rattle.model.specs.Search.{one_on, last_place}

-- the element at a place, or else o
abbrev standing : {X : Type 0} → List X → Option X → Option ℕ → Option X
standing xs o None = o
standing xs o (Some i) = slice_get xs i

abbrev Inside : ℕ → Option ℕ → Type 0
Inside n None = Unit {0}
Inside n (Some i) = i < n

module _ {X : Type 0} (p : X → Bool) where
  standing-cons : (x : X) (xs : List X) (o : Option X) (q : Bool) (i : Option ℕ) → standing xs (cond q (Some x) o) i ≡ standing (x ∷ xs) o (one_on i (cond q (Some 0) None))
  standing-cons x xs o true None = refl
  standing-cons x xs o true (Some i) = refl
  standing-cons x xs o false None = refl
  standing-cons x xs o false (Some i) = refl

  kept_cons : (x : X) (xs : List X) (o : Option X) → last_or o (filter p (x ∷ xs)) ≡ last_or (cond (p x) (Some x) o) (filter p xs)
  kept_cons x xs o = grind arith

  last-standing : (xs : List X) (o : Option X) → last_or o (filter p xs) ≡ standing xs o (last_place p xs)
  last-standing [] o = refl
  last-standing (x ∷ xs) o = kept_cons x xs o ∙ last-standing xs (cond (p x) (Some x) o) ∙ standing-cons x xs o (p x) (last_place p xs)

  inside-cons : (n : ℕ) (q : Bool) (i : Option ℕ) → Inside n i → Inside (suc n) (one_on i (cond q (Some 0) None))
  inside-cons n true None h = omega arith
  inside-cons n false None h = tt
  inside-cons n q (Some i) h = omega arith

  last-inside : (xs : List X) → Inside (length xs) (last_place p xs)
  last-inside [] = tt
  last-inside (x ∷ xs) = inside-cons (length xs) (p x) (last_place p xs) (last-inside xs)

  pub place_in : (xs : List X) (i : ℕ) → Some i ≡ last_place p xs → i < length xs
  place_in xs i e = subst (Inside (length xs)) (sym e) (last-inside xs)

  pub none_kept : (xs : List X) → None ≡ last_place p xs → None ≡ last_or None (filter p xs)
  none_kept xs e = sym (last-standing xs None ∙ ap (standing xs None) (sym e))

  pub kept_at : (xs : List X) (i : ℕ) (d : X) → Some i ≡ last_place p xs → Some (get_or xs i d) ≡ last_or None (filter p xs)
  kept_at xs i d e = sym (last-standing xs None ∙ ap (standing xs None) (sym e) ∙ slice_get-get_or xs i d (place_in xs i e))

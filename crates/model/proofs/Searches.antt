-- The last place whose element passes a test, by what holds of the elements.
use Rattle.std.proofs.Common.{◌≡◌, ℕ, zero, suc, ◌<◌, Bool, true, false, cond, List, [], ◌∷◌, length, Some, None, arith, ap, refl, sym, ◌∙◌}
use Rattle.std.specs.Prelude.{Option, MatchOption}
use Rattle.std.specs.List.{HoldsAt}
use Rattle.std.proofs.lemmas.Bool.{cond-true, cond-false}
use Rattle.model.specs.Search.{one_on, last_place}

module _ {X : Type 0} (p : X → Bool) where
  abbrev pub Fails : X → Type 0
  Fails x = p x ≡ false

  abbrev pub Passes : X → Type 0
  Passes x = p x ≡ true

  none : (xs : List X) → ((k : ℕ) → k < length xs → HoldsAt Fails xs k) → last_place p xs ≡ None
  none [] fail = refl
  none (x ∷ xs) fail =
      ap (λ o. one_on o (cond (p x) (Some 0) None)) (none xs (λ k inside. fail (suc k) (omega arith)))
      ∙ cond-false (p x) (Some 0) None (fail 0 (omega arith) x)

  at : (xs : List X) (i : ℕ) → i < length xs → HoldsAt Passes xs i → ((k : ℕ) → i < k → k < length xs → HoldsAt Fails xs k) → last_place p xs ≡ Some i
  at [] i inside pass fail = absurd (omega arith)
  at (x ∷ xs) zero inside pass fail =
      ap (λ o. one_on o (cond (p x) (Some 0) None)) (none xs (λ k within. fail (suc k) (omega arith) (omega arith)))
      ∙ cond-true (p x) (Some 0) None (pass x)
  at (x ∷ xs) (suc i) inside pass fail =
      ap (λ o. one_on o (cond (p x) (Some 0) None)) (at xs i (omega arith) pass (λ k above within. fail (suc k) (omega arith) (omega arith)))

  -- none passes; or one does, and none after it
  pub last_place-found : (xs : List X) (r : Option ℕ) → MatchOption r ((k : ℕ) → k < length xs → HoldsAt Fails xs k) (λ i. (i < length xs) × HoldsAt Passes xs i × ((k : ℕ) → i < k → k < length xs → HoldsAt Fails xs k)) → r ≡ last_place p xs
  last_place-found xs None fail = sym (none xs fail)
  last_place-found xs (Some i) found = sym (at xs i found.0 found.1 found.2)

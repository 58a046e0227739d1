-- The turns as they come round, and the first of them whose board has a carry.
use Rattle.std.proofs.Common.{◌≡◌, ℕ, zero, suc, ◌+◌, ◌-◌, ◌<◌, ◌≤◌, Bool, true, false, cond, eqb, ltb, List, [], ◌∷◌, length, get_or, is_some, Some, None, Option, sym, refl, ap, ◌∙◌, subst, ⊎_elim, arith}
use Rattle.std.specs.List.{range_with_len, find}
use Rattle.std.specs.Option.{option_or}
use Rattle.std.proofs.lemmas.List.Folds.{find-append}
use Rattle.std.proofs.lemmas.List.{get_or_past}
use Rattle.std.proofs.lemmas.Bool.Decides.{nat_tests}
use Rattle.std.proofs.lemmas.Bool.{cases_lt, cases_Bool, true≢false, false≢true, or_cases, cond-true, cond-false, eqb-true}
use Rattle.model.specs.declared.carry.Carry.{Carry}
use Rattle.carries.specs.Lines.{line, oldest}
use Rattle.rota.specs.Turns.{occurs, EveryBoard, waits, can_land, coming_round, turn_after, Served}

-- what it is to be the first of m numbers from a on that pass a test
abbrev FirstIn : (ℕ → Bool) → ℕ → ℕ → Option ℕ → Type 0
FirstIn p a m None = (j : ℕ) → a ≤ j → j < a + m → p j ≡ false
FirstIn p a m (Some i) = (a ≤ i) × (i < a + m) × (p i ≡ true) × ((j : ℕ) → a ≤ j → j < i → p j ≡ false)

module _ (p : ℕ → Bool) where
  one-before : (a m : ℕ) → p a ≡ false → (r : Option ℕ) → FirstIn p (a + 1) m r → FirstIn p a (suc m) r
  one-before a m f None h = λ j low high. grind (arith, f, h j)
  one-before a m f (Some i) h = (omega (arith, h.0), omega (arith, h.1), h.2, λ j low high. grind (arith, f, h.3 j))

  first-in : (a m : ℕ) → FirstIn p a m (find p (range_with_len a m))
  first-in a zero = λ j low high. absurd (omega arith)
  first-in a (suc m) =
      let rest = find p (range_with_len (a + 1) m) in
      ⊎_elim
      (λ (t : p a ≡ true). subst (FirstIn p a (suc m)) (sym (cond-true (p a) (Some a) rest t)) (omega arith, omega arith, t, λ j low high. absurd (omega arith)))
      (λ (f : p a ≡ false). subst (FirstIn p a (suc m)) (sym (cond-false (p a) (Some a) rest f)) (one-before a m f rest (first-in (a + 1) m)))
      (cases_Bool (p a))

-- how many of n turns are passed over from turn t to turn i
abbrev pub passed : ℕ → ℕ → ℕ → ℕ
passed n t i = cond (ltb i t) (n - t + i) (i - t)

-- the first turn that passes a test, as the n turns come round from turn t
abbrev pub FirstRound : (ℕ → Bool) → ℕ → ℕ → Option ℕ → Type 0
FirstRound p n t None = (j : ℕ) → j < n → p j ≡ false
FirstRound p n t (Some i) = (i < n) × (p i ≡ true) × ((j : ℕ) → j < n → p j ≡ true → passed n t i ≤ passed n t j)

module _ (p : ℕ → Bool) (n t : ℕ) (inside : t < n) where
  -- found ahead of t
  ahead : (i : ℕ) → FirstIn p t (n - t) (Some i) → FirstRound p n t (Some i)
  ahead i h = (omega (arith, h.1), h.2, λ j in-round pass. grind (arith, nat_tests, h.0, h.1, h.3 j))

  -- nothing ahead of t, so from the start
  behind : FirstIn p t (n - t) None → (r : Option ℕ) → FirstIn p 0 t r → FirstRound p n t r
  behind none None h = λ j in-round. grind (arith, none j, h j)
  behind none (Some i) h = (omega (arith, h.1), h.2, λ j in-round pass. grind (arith, nat_tests, h.1, none j, h.3 j))

  pub first_round : FirstRound p n t (find p (coming_round n t))
  first_round = subst (FirstRound p n t) (sym (find-append p (range_with_len t (n - t)) (range_with_len 0 t))) (go (find p (range_with_len t (n - t))) (first-in p t (n - t)))
    where
      go : (r : Option ℕ) → FirstIn p t (n - t) r → FirstRound p n t (option_or r (find p (range_with_len 0 t)))
      go (Some i) h = ahead i h
      go None h = behind h (find p (range_with_len 0 t)) (first-in p 0 t)

-- the turn after turn i: every turn that was further off than i is nearer by those passed over and by one
pub after_turn : (ts : List ℕ) (t i j : ℕ) → t < length ts → i < length ts → j < length ts → passed (length ts) t i < passed (length ts) t j
    → (turn_after ts i < length ts) × (passed (length ts) (turn_after ts i) j + passed (length ts) t i + 1 ≡ passed (length ts) t j)
after_turn ts t i j t-in i-in j-in less = grind (arith, nat_tests)

pub passed-most : (n t j : ℕ) → t < n → j < n → passed n t j < n
passed-most n t j h k = grind (arith, nat_tests)

pub passed-same : (n t i j : ℕ) → t < n → i < n → j < n → passed n t i ≡ passed n t j → i ≡ j
passed-same n t i j h k l e = grind (arith, nat_tests)

-- where a board has a turn
pub turn-of : (b : ℕ) (ts : List ℕ) → occurs b ts ≡ true → (j : ℕ) × (j < length ts) × (get_or ts j 0 ≡ b)
turn-of b [] e = absurd (false≢true e)
turn-of b (t ∷ ts) e =
    ⊎_elim
    (λ (here : eqb t b ≡ true). (0, omega arith, eqb-true t b here))
    (λ (later : occurs b ts ≡ true). let found = turn-of b ts later in (suc found.0, omega (arith, found.1), found.2))
    (or_cases (eqb t b) (occurs b ts) e)

empty-line : (l : List Carry) → waits l ≡ false → l ≡ []
empty-line [] e = refl
empty-line (x ∷ xs) e = absurd (true≢false e)

some-oldest : (l : List Carry) → waits l ≡ true → is_some (oldest l) ≡ true
some-oldest [] e = absurd (false≢true e)
some-oldest (x ∷ xs) e = refl

module _ (ts : List ℕ) (every : EveryBoard ts) (ls : List (List Carry)) (eight : length ls ≡ 8) where
  pub served-by : (t : ℕ) (r : Option ℕ) → FirstRound (can_land ts ls) (length ts) t r → Served ts ls r
  served-by t None none = (
    λ b.
        ⊎_elim
        (λ (h : b < 8). let at = turn-of b ts (every b h) in empty-line (line ls b) (ap (λ k. waits (line ls k)) (sym at.2) ∙ none at.0 at.1))
        (λ (h : 8 ≤ b). get_or_past ls b [] (omega arith))
        (cases_lt b 8),
    refl,
  )
  served-by t (Some i) found = (found.0, some-oldest (line ls (get_or ts i 0)) found.1)

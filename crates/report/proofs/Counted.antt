-- A cache has as many places taken as there are cells with a valid entry.
use Rattle.std.proofs.Common.{◌≡◌, ℕ, zero, suc, ◌+◌, ◌<◌, ◌≤◌, true, false, cond, ◌≢◌, List, [], ◌∷◌, get_or, sym, refl, ap, ◌∙◌, ⊎_elim, arith}
use Rattle.std.proofs.lemmas.List.Sums.{sum_by-cons}
use Rattle.std.proofs.lemmas.Bool.Decides.{nat_tests}
use Rattle.std.proofs.lemmas.Bool.{cases_Bool, cases_eq, cases_lt, cond-true, cond-false, both_ways, eq-eqb}
use Rattle.model.specs.declared.entry.Entry.{Entry}
use Rattle.cache.specs.declared.place.Place.{Place}
use Rattle.cache.specs.declared.place.Place.TheVariants.{Empty, Clean, Dirty}
use Rattle.cache.specs.Places.{holds, is_taken, entry_of, entry_in, taken_in, Distinct}
use Rattle.cache.proofs.Distinct.{both-clash, distinct-rest}
use Rattle.state.proofs.Stores.{holds-one, nowhere-invalid}
use Rattle.report.specs.Plain.{is_valid, valid_below}

-- ── the cells below n that have a valid entry ──

-- only the entries of those cells count
pub valid_same : (f g : ℕ → Entry) (n : ℕ) → ((c : ℕ) → c < n → f c ≡ g c) → valid_below f n ≡ valid_below g n
valid_same f g zero same = refl
valid_same f g (suc n) same = rw (same n (omega arith), valid_same f g n (λ c h. same c (omega arith)))

-- one cell more
valid-more : (f g : ℕ → Entry) (d n : ℕ) → d < n → is_valid (f d) ≡ false → is_valid (g d) ≡ true → ((c : ℕ) → c ≢ d → g c ≡ f c) → valid_below g n ≡ suc (valid_below f n)
valid-more f g d zero h old new others = absurd (omega arith)
valid-more f g d (suc n) h old new others =
    ⊎_elim
    (λ (e : n ≡ d). let below = valid_same g f n (λ c l. others c (λ z. omega arith)) in rw (e, old, new) (rw (← e) (ap suc below)))
    (λ (ne : n ≡ d → ⊥). let below = valid-more f g d n (omega arith) old new others in rw (others n ne, below) (grind (arith, nat_tests)))
    (cases_eq n d)

-- an empty cache
none-valid : (n : ℕ) → valid_below (entry_in []) n ≡ 0
none-valid zero = refl
none-valid (suc n) = none-valid n

-- ── one place more ──

-- of a place with the cell d, in front of others
module _ (p : Place) (ps : List Place) (d n : ℕ) (distinct : Distinct (p ∷ ps)) (here : holds p d ≡ true) (valid : is_valid (entry_of p) ≡ true) (past : (c : ℕ) → n ≤ c → entry_in (p ∷ ps) c ≡ Entry.Invalid) where
  -- the place in front counts
  first : is_valid (entry_in (p ∷ ps) d) ≡ true
  first = ap is_valid (cond-true (holds p d) (entry_of p) (entry_in ps d) here) ∙ valid

  -- at no other cell does it count
  elsewhere : (c : ℕ) → c ≢ d → entry_in (p ∷ ps) c ≡ entry_in ps c
  elsewhere c ne = cond-false (holds p c) (entry_of p) (entry_in ps c) (holds-one p d c here ne)

  -- no place behind it has its cell
  nowhere-else : entry_in ps d ≡ Entry.Invalid
  nowhere-else =
      nowhere-invalid ps d
      (λ j.
      ⊎_elim
      (λ (h : holds (get_or ps j Empty) d ≡ true). let z = distinct 0 (suc j) (both-clash p (get_or ps j Empty) d here h) in absurd (omega arith))
      (λ (h : holds (get_or ps j Empty) d ≡ false). h)
      (cases_Bool (holds (get_or ps j Empty) d)))

  -- its cell is below n
  inside : d < n
  inside = ⊎_elim (λ (h : d < n). h) (λ (h : n ≤ d). absurd (both_ways (is_valid (entry_in (p ∷ ps) d)) (ap is_valid (past d h)) first)) (cases_lt d n)

  -- the places behind it have no cell from n on
  rest-past : (c : ℕ) → n ≤ c → entry_in ps c ≡ Entry.Invalid
  rest-past c h = sym (elsewhere c (λ e. let z = inside in omega arith)) ∙ past c h

  -- so there is one more of both
  one_more : is_taken p ≡ true → (((c : ℕ) → n ≤ c → entry_in ps c ≡ Entry.Invalid) → taken_in ps ≡ valid_below (entry_in ps) n) → taken_in (p ∷ ps) ≡ valid_below (entry_in (p ∷ ps)) n
  one_more taken rest =
      sum_by-cons (λ x. cond (is_taken x) 1 0) p ps
      ∙ ap (λ m. m + taken_in ps) (cond-true (is_taken p) 1 0 taken)
      ∙ omega (arith, rest rest-past)
      ∙ sym (valid-more (entry_in ps) (entry_in (p ∷ ps)) d n inside (ap is_valid nowhere-else) first elsewhere)

-- ── all places ──

pub taken-count : (ps : List Place) (n : ℕ) → Distinct ps → ((c : ℕ) → n ≤ c → entry_in ps c ≡ Entry.Invalid) → taken_in ps ≡ valid_below (entry_in ps) n
taken-count [] n distinct past = sym (none-valid n)
taken-count (Empty ∷ ps) n distinct past = sum_by-cons (λ x. cond (is_taken x) 1 0) Empty ps ∙ omega (arith, taken-count ps n (distinct-rest Empty ps distinct) past)
taken-count (Clean d w ∷ ps) n distinct past = one_more (Clean d w) ps d n distinct (eq-eqb d d refl) refl past refl (taken-count ps n (distinct-rest (Clean d w) ps distinct))
taken-count (Dirty d w ∷ ps) n distinct past = one_more (Dirty d w) ps d n distinct (eq-eqb d d refl) refl past refl (taken-count ps n (distinct-rest (Dirty d w) ps distinct))

-- One place changed leaves each cell in one place.
use Rattle.std.proofs.Common.{◌≡◌, ℕ, suc, ◌<◌, true, ◌≢◌, List, ◌∷◌, length, get_or, set, sym, ◌∙◌, ⊎_elim, arith}
use Rattle.std.proofs.lemmas.List.{get_or-set_same, get_or-set_other}
use Rattle.std.proofs.lemmas.Bool.{cases_eq}
use Rattle.std.proofs.lemmas.Bool.Decides.{nat_tests}
use Rattle.cache.specs.Places.{holds, clash, Distinct}
use Rattle.cache.specs.declared.place.Place.{Place}
use Rattle.cache.specs.declared.place.Place.TheVariants.{Empty}

clash-swap : (p q : Place) → clash p q ≡ true → clash q p ≡ true
clash-swap p q e = grind (arith, nat_tests)

pub both-clash : (p q : Place) (c : ℕ) → holds p c ≡ true → holds q c ≡ true → clash p q ≡ true
both-clash p q c e f = grind (arith, nat_tests)

-- the cell of p stands in no place but i
abbrev pub Fits : List Place → ℕ → Place → Type 0
Fits ps i p = (j : ℕ) → clash p (get_or ps j Empty) ≡ true → j ≡ i

pub distinct-set : (ps : List Place) (i : ℕ) (p : Place) → i < length ps → Distinct ps → Fits ps i p → Distinct (set ps i p)
distinct-set ps i p in' d f a b h =
    ⊎_elim
    (λ (ai : a ≡ i).
    ⊎_elim
    (λ (bi : b ≡ i). ai ∙ sym bi)
    (λ (nb : b ≢ i).
    let h' : clash p (get_or ps b Empty) ≡ true = grind (arith, get_or-set_same ps i p Empty in', get_or-set_other ps i b p Empty nb, h, ai) in
    ai ∙ sym (f b h'))
    (cases_eq b i))
    (λ (na : a ≢ i).
    ⊎_elim
    (λ (bi : b ≡ i).
    let h' : clash (get_or ps a Empty) p ≡ true = grind (arith, get_or-set_same ps i p Empty in', get_or-set_other ps i a p Empty na, h, bi) in
    f a (clash-swap (get_or ps a Empty) p h') ∙ sym bi)
    (λ (nb : b ≢ i).
    let h' : clash (get_or ps a Empty) (get_or ps b Empty) ≡ true = grind (arith, get_or-set_other ps i a p Empty na, get_or-set_other ps i b p Empty nb, h) in
    d a b h')
    (cases_eq b i))
    (cases_eq a i)

pub distinct-rest : (p : Place) (ps : List Place) → Distinct (p ∷ ps) → Distinct ps
distinct-rest p ps d i j h = let e = d (suc i) (suc j) h in omega arith

-- Where a cell stands, whichever place is looked at first; and where an entry may be stored.
use Rattle.std.proofs.Common.{◌≡◌, ℕ, zero, suc, ◌<◌, Bool, true, false, not, cond, ◌||◌, ltb, List, [], ◌∷◌, length, get_or, set, Some, None, Option, sym, refl, ap, ◌∙◌, ⊎_elim, arith}
use Rattle.std.specs.List.{position}
use Rattle.std.specs.Option.{MatchOption}
use Rattle.std.proofs.lemmas.List.Quantifiers.{position-Some}
use Rattle.std.proofs.lemmas.Bool.{cases_Bool, cond-true, cond-false, or_left, or_right, or_parts, and_parts, both_ways}
use Rattle.std.proofs.lemmas.List.Sums.{sum_by-cons, fails_before_first}
use Rattle.std.proofs.lemmas.Bool.Decides.{nat_tests}
use Rattle.model.specs.declared.entry.Entry.{Entry}
use Rattle.cache.specs.Places.{holds, is_taken, entry_of, place_for, entry_in, stands_in, taken_in, replace_in, vacant, store_in, clash, Distinct, Found, Vacant, OfferedAt, Offered}
use Rattle.cache.proofs.Distinct.{both-clash, Fits, distinct-set, distinct-rest}
use Rattle.cache.specs.declared.place.Place.{Place}
use Rattle.cache.specs.declared.place.Place.TheVariants.{Empty}

pub all-taken : (ps : List Place) → ((i : ℕ) → i < length ps → is_taken (get_or ps i Empty) ≡ true) → taken_in ps ≡ length ps
all-taken [] h = refl
all-taken (p ∷ ps) h =
    let first : is_taken p ≡ true = h 0 (omega arith) in
    let rest : taken_in ps ≡ length ps = all-taken ps (λ i l. h (suc i) (omega arith)) in
    let e = sum_by-cons (λ x. cond (is_taken x) 1 0) p ps in
    grind (arith, e, first, rest)

stands-nowhere : (ps : List Place) (c : ℕ) → ((k : ℕ) → k < length ps → holds (get_or ps k Empty) c ≡ false) → stands_in ps c ≡ false
stands-nowhere [] c h = refl
stands-nowhere (p ∷ ps) c h = ap (λ b. b || stands_in ps c) (h 0 (omega arith)) ∙ stands-nowhere ps c (λ k l. h (suc k) (omega arith))

-- the first place that passes a test, as `position` answers it
none-passes : (p : Place → Bool) (ps : List Place) → None ≡ position p ps → (k : ℕ) → k < length ps → p (get_or ps k Empty) ≡ false
none-passes p ps e k l = fails_before_first p ps k Empty (grind (arith, nat_tests, e, l))

pub found : (ps : List Place) (c : ℕ) (r : Option ℕ) → r ≡ position (λ p. holds p c) ps → Found ps c r
found ps c None e = stands-nowhere ps c (none-passes (λ p. holds p c) ps e)
found ps c (Some i) e = let at = position-Some (λ p. holds p c) ps i Empty (sym e) in (at.0, at.1)

pub vacant-found : (ps : List Place) (r : Option ℕ) → r ≡ position (λ p. not (is_taken p)) ps → Vacant ps r
vacant-found ps None e = all-taken ps (λ k l. let h = none-passes (λ p. not (is_taken p)) ps e k l in grind (arith, h))
vacant-found ps (Some i) e = let at = position-Some (λ p. not (is_taken p)) ps i Empty (sym e) in grind (arith, nat_tests, at.0, at.1)

pub invalid : (ps : List Place) (c : ℕ) → stands_in ps c ≡ false → entry_in ps c ≡ Entry.Invalid
invalid [] c e = refl
invalid (p ∷ ps) c e =
    let parts = or_parts (holds p c) (stands_in ps c) e in
    cond-false (holds p c) (entry_of p) (entry_in ps c) parts.0 ∙ invalid ps c parts.1

nowhere : (ps : List Place) (c : ℕ) → stands_in ps c ≡ false → (j : ℕ) → holds (get_or ps j Empty) c ≡ false
nowhere [] c e j = refl
nowhere (p ∷ ps) c e zero = (or_parts (holds p c) (stands_in ps c) e).0
nowhere (p ∷ ps) c e (suc j) = nowhere ps c (or_parts (holds p c) (stands_in ps c) e).1 j

-- a cell that stands in the first place stands in no other
first-only : (p : Place) (ps : List Place) (c j : ℕ) → Distinct (p ∷ ps) → holds p c ≡ true → holds (get_or ps j Empty) c ≡ true → ⊥
first-only p ps c j d e f = let z = d 0 (suc j) (both-clash p (get_or ps j Empty) c e f) in omega arith

-- a cell that stands in place i of a cache
pub stands : (ps : List Place) (c i : ℕ) → holds (get_or ps i Empty) c ≡ true → stands_in ps c ≡ true
stands [] c i e = grind arith
stands (p ∷ ps) c zero e = or_left (holds p c) (stands_in ps c) e
stands (p ∷ ps) c (suc i) e = or_right (holds p c) (stands_in ps c) (stands ps c i e)

pub entry_at : (ps : List Place) (c i : ℕ) → Distinct ps → holds (get_or ps i Empty) c ≡ true → entry_of (get_or ps i Empty) ≡ entry_in ps c
entry_at [] c i d e = refl
entry_at (p ∷ ps) c zero d e = sym (cond-true (holds p c) (entry_of p) (entry_in ps c) e)
entry_at (p ∷ ps) c (suc i) d e =
    ⊎_elim
    (λ (h : holds p c ≡ true). absurd (first-only p ps c i d h e))
    (λ (h : holds p c ≡ false). entry_at ps c i (distinct-rest p ps d) e ∙ sym (cond-false (holds p c) (entry_of p) (entry_in ps c) h))
    (cases_Bool (holds p c))

replace-at : (ps : List Place) (c i : ℕ) (q : Place) → Distinct ps → holds (get_or ps i Empty) c ≡ true → replace_in ps c q ≡ set ps i q
replace-at [] c i q d e = refl
replace-at (p ∷ ps) c zero q d e = cond-true (holds p c) (q ∷ ps) (p ∷ replace_in ps c q) e
replace-at (p ∷ ps) c (suc i) q d e =
    ⊎_elim
    (λ (h : holds p c ≡ true). absurd (first-only p ps c i d h e))
    (λ (h : holds p c ≡ false).
    cond-false (holds p c) (q ∷ ps) (p ∷ replace_in ps c q) h ∙ ap (λ l. p ∷ l) (replace-at ps c i q (distinct-rest p ps d) e))
    (cases_Bool (holds p c))

pub replace-nowhere : (ps : List Place) (c : ℕ) (q : Place) → stands_in ps c ≡ false → replace_in ps c q ≡ ps
replace-nowhere [] c q e = refl
replace-nowhere (p ∷ ps) c q e =
    let parts = or_parts (holds p c) (stands_in ps c) e in
    cond-false (holds p c) (q ∷ ps) (p ∷ replace_in ps c q) parts.0 ∙ ap (λ l. p ∷ l) (replace-nowhere ps c q parts.1)

-- what the looks answer

pub looked-up : (ps : List Place) (c : ℕ) (o : Option ℕ) (r : Place) → Distinct ps → Found ps c o → MatchOption o (r ≡ Empty) (λ i. r ≡ get_or ps i Empty) → entry_of r ≡ entry_in ps c
looked-up ps c None r d f is = ap entry_of is ∙ sym (invalid ps c f)
looked-up ps c (Some i) r d f is = ap entry_of is ∙ entry_at ps c i d f.1

pub offered-found : (ps : List Place) (c i : ℕ) → Found ps c (Some i) → Offered ps c (Some i)
offered-found ps c i f = (f.0, cond-true (stands_in ps c) (holds (get_or ps i Empty) c) (vacant ps i) (stands ps c i f.1) ∙ f.1)

pub offered-vacant : (ps : List Place) (c : ℕ) (o : Option ℕ) → stands_in ps c ≡ false → Vacant ps o → Offered ps c o
offered-vacant ps c None e v = (e, v)
offered-vacant ps c (Some i) e v =
    (ltb-in (length ps) i (and_parts (ltb i (length ps)) _ v).0, cond-false (stands_in ps c) (holds (get_or ps i Empty) c) (vacant ps i) e ∙ v)
  where
    ltb-in : (n i : ℕ) → ltb i n ≡ true → i < n
    ltb-in n i e = grind (arith, nat_tests)

pub offered : (ps : List Place) (c : ℕ) (o r : Option ℕ) → Found ps c o → MatchOption o (Vacant ps r) (λ i. r ≡ Some i) → Offered ps c r
offered ps c None r f v = offered-vacant ps c r f v
offered ps c (Some i) r f e = rw e (offered-found ps c i f)

-- what a cell's own place, or that it has none, means for an entry that is replaced
pub ruleset replacing = (offered-found, replace-nowhere)

-- storing where it is offered

module _ (ps : List Place) (c i : ℕ) (e : Entry) (d : Distinct ps) (o : OfferedAt ps c i) where
  abbrev new : Place
  new = place_for c e

  new-holds : (q : Place) → clash (place_for c e) q ≡ true → holds q c ≡ true
  new-holds q h = elim e as (λ x. clash (place_for c x) q ≡ true → holds q c ≡ true) [ Entry.Invalid ↦ λ k. grind arith | Entry.Clean w ↦ λ k. k | Entry.Dirty w ↦ λ k. k ] h

  pub here : stands_in ps c ≡ true → holds (get_or ps i Empty) c ≡ true
  here s = sym (cond-true (stands_in ps c) (holds (get_or ps i Empty) c) (vacant ps i) s) ∙ o.1

  pub free : stands_in ps c ≡ false → vacant ps i ≡ true
  free s = sym (cond-false (stands_in ps c) (holds (get_or ps i Empty) c) (vacant ps i) s) ∙ o.1

  pub stored : store_in i ps c e ≡ Some (set ps i new)
  stored =
      ⊎_elim
      (λ (s : stands_in ps c ≡ true).
      cond-true (stands_in ps c) (Some (replace_in ps c new)) (cond (vacant ps i) (Some (set ps i new)) None) s ∙ ap Some (replace-at ps c i new d (here s)))
      (λ (s : stands_in ps c ≡ false).
      cond-false (stands_in ps c) (Some (replace_in ps c new)) (cond (vacant ps i) (Some (set ps i new)) None) s
      ∙ cond-true (vacant ps i) (Some (set ps i new)) None (free s))
      (cases_Bool (stands_in ps c))

  fits : Fits ps i new
  fits j h =
      let hold = new-holds (get_or ps j Empty) h in
      ⊎_elim
      (λ (s : stands_in ps c ≡ true). d j i (both-clash (get_or ps j Empty) (get_or ps i Empty) c hold (here s)))
      (λ (s : stands_in ps c ≡ false). absurd (both_ways (stands_in ps c) s (stands ps c j hold)))
      (cases_Bool (stands_in ps c))

  pub stored-distinct : Distinct (set ps i new)
  stored-distinct = distinct-set ps i new o.0 d fits

-- an entry renewed where the cell stands
pub store-stands : (ps qs : List Place) (c i : ℕ) (e : Entry) → holds (get_or ps i Empty) c ≡ true → store_in i ps c e ≡ Some qs → qs ≡ replace_in ps c (place_for c e)
store-stands ps qs c i e h s =
    let known = sym (cond-true (stands_in ps c) (Some (replace_in ps c (place_for c e))) (cond (vacant ps i) (Some (set ps i (place_for c e))) None) (stands ps c i h)) ∙ s in
    cc

pub renewed : (ps qs : List Place) (c : ℕ) (o : Option ℕ) (e : Entry) → Found ps c o → MatchOption o (qs ≡ ps) (λ i. store_in i ps c e ≡ Some qs) → qs ≡ replace_in ps c (place_for c e)
renewed ps qs c None e f is = is ∙ sym (replace-nowhere ps c (place_for c e) f)
renewed ps qs c (Some i) e f is = store-stands ps qs c i e f.1 is

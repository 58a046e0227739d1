-- One entry stored in a cache: what the cache then has of each cell, and when an entry can be stored.
use Rattle.std.proofs.Common.{◌≡◌, ℕ, zero, suc, ◌<◌, Bool, true, false, cond, not, eqb, ltb, ◌≢◌, List, [], ◌∷◌, length, get_or, set, is_some, Some, None, sym, refl, ap, ◌∙◌, subst, ⊎_elim, arith}
use Rattle.std.proofs.lemmas.List.{length-set}
use Rattle.std.proofs.lemmas.List.Sums.{sum_by-cons}
use Rattle.std.proofs.lemmas.Bool.{cases_Bool, both_ways, cond-true, cond-false, or_cases, and_parts, and_from, not-true, not_from_false, eq-eqb, ne_eqb, eqb-true, lt-ltb, ltb-true}
use Rattle.model.specs.declared.entry.Entry.{Entry}
use Rattle.cache.specs.declared.place.Place.{Place}
use Rattle.cache.specs.declared.place.Place.TheVariants.{Empty, Clean, Dirty}
use Rattle.cache.specs.Places.{holds, is_taken, entry_of, place_for, entry_in, stands_in, taken_in, replace_in, vacant, store_in, Distinct, Found, OfferedAt}
use Rattle.cache.proofs.Distinct.{both-clash}
use Rattle.cache.proofs.Looks.{invalid, stands, offered-found, offered-vacant, here, free, stored, stored-distinct}

-- qs has the entry e of cell c, and of every other cell what ps has
pub record Entered (ps qs : List Place) (c : ℕ) (e : Entry) : Type 0 where
  pub here : entry_in qs c ≡ e
  pub there : (d : ℕ) → d ≢ c → entry_in qs d ≡ entry_in ps d
  pub long : length qs ≡ length ps
  pub distinct : Distinct qs

-- what one place holds

taken-holds : (p : Place) (c : ℕ) → is_taken p ≡ false → holds p c ≡ false
taken-holds Empty c e = refl
taken-holds (Clean d w) c e = absurd (both_ways true e refl)
taken-holds (Dirty d w) c e = absurd (both_ways true e refl)

pub holds-one : (p : Place) (c d : ℕ) → holds p c ≡ true → d ≢ c → holds p d ≡ false
holds-one Empty c d h ne = refl
holds-one (Clean k w) c d h ne = ne_eqb k d (λ e. ne (sym e ∙ eqb-true k c h))
holds-one (Dirty k w) c d h ne = ne_eqb k d (λ e. ne (sym e ∙ eqb-true k c h))

other-cell : (c d : ℕ) (e : Entry) → d ≢ c → holds (place_for c e) d ≡ false
other-cell c d Entry.Invalid ne = refl
other-cell c d (Entry.Clean w) ne = ne_eqb c d (λ e. ne (sym e))
other-cell c d (Entry.Dirty w) ne = ne_eqb c d (λ e. ne (sym e))

-- one place changed

pub nowhere-invalid : (ps : List Place) (c : ℕ) → ((j : ℕ) → holds (get_or ps j Empty) c ≡ false) → entry_in ps c ≡ Entry.Invalid
nowhere-invalid [] c none = refl
nowhere-invalid (p ∷ ps) c none = cond-false (holds p c) (entry_of p) (entry_in ps c) (none 0) ∙ nowhere-invalid ps c (λ j. none (suc j))

entry_first : (ps : List Place) (c : ℕ) (e : Entry) → ((j : ℕ) → holds (get_or ps j Empty) c ≡ false) → entry_in (place_for c e ∷ ps) c ≡ e
entry_first ps c Entry.Invalid none = nowhere-invalid ps c none
entry_first ps c (Entry.Clean w) none = cond-true (eqb c c) (Entry.Clean w) (entry_in ps c) (eq-eqb c c refl)
entry_first ps c (Entry.Dirty w) none = cond-true (eqb c c) (Entry.Dirty w) (entry_in ps c) (eq-eqb c c refl)

entry_here : (ps : List Place) (i c : ℕ) (e : Entry) → i < length ps → ((j : ℕ) → j ≢ i → holds (get_or ps j Empty) c ≡ false) → entry_in (set ps i (place_for c e)) c ≡ e
entry_here [] i c e in' none = absurd (omega arith)
entry_here (p ∷ ps) zero c e in' none = entry_first ps c e (λ j. none (suc j) (λ z. omega arith))
entry_here (p ∷ ps) (suc i) c e in' none =
    cond-false (holds p c) (entry_of p) (entry_in (set ps i (place_for c e)) c) (none 0 (λ z. omega arith))
    ∙ entry_here ps i c e (omega arith) (λ j ne. none (suc j) (λ z. ne (omega arith)))

entry-there : (ps : List Place) (i d : ℕ) (p : Place) → holds (get_or ps i Empty) d ≡ false → holds p d ≡ false → entry_in (set ps i p) d ≡ entry_in ps d
entry-there [] i d p old new = refl
entry-there (q ∷ ps) zero d p old new = cond-false (holds p d) (entry_of p) (entry_in ps d) new ∙ sym (cond-false (holds q d) (entry_of q) (entry_in ps d) old)
entry-there (q ∷ ps) (suc i) d p old new = ap (λ e. cond (holds q d) (entry_of q) e) (entry-there ps i d p old new)

-- an entry stored in place i, where it is offered
module _ (ps : List Place) (c i : ℕ) (e : Entry) (d : Distinct ps) (o : OfferedAt ps c i) where
  here-free : stands_in ps c ≡ false → is_taken (get_or ps i Empty) ≡ false
  here-free s = not-true (is_taken (get_or ps i Empty)) (and_parts (ltb i (length ps)) (not (is_taken (get_or ps i Empty))) (free ps c i e d o s)).1

  none_other : (j : ℕ) → j ≢ i → holds (get_or ps j Empty) c ≡ false
  none_other j ne =
      ⊎_elim
      (λ (h : holds (get_or ps j Empty) c ≡ true). absurd (ne (d j i (both-clash (get_or ps j Empty) (get_or ps i Empty) c h (here ps c i e d o (stands ps c j h))))))
      (λ (h : holds (get_or ps j Empty) c ≡ false). h)
      (cases_Bool (holds (get_or ps j Empty) c))

  not-here : (k : ℕ) → k ≢ c → holds (get_or ps i Empty) k ≡ false
  not-here k ne =
      ⊎_elim
      (λ (s : stands_in ps c ≡ true). holds-one (get_or ps i Empty) c k (here ps c i e d o s) ne)
      (λ (s : stands_in ps c ≡ false). taken-holds (get_or ps i Empty) k (here-free s))
      (cases_Bool (stands_in ps c))

  entered_at : Entered ps (set ps i (place_for c e)) c e
  entered_at =
      record {
        here = entry_here ps i c e o.0 none_other;
        there = λ k ne. entry-there ps i k (place_for c e) (not-here k ne) (other-cell c k e ne);
        long = length-set ps i (place_for c e);
        distinct = stored-distinct ps c i e d o;
      }

-- where a cell stands
place_of : (ps : List Place) (c : ℕ) → stands_in ps c ≡ true → (i : ℕ) × Found ps c (Some i)
place_of [] c s = absurd (both_ways false refl s)
place_of (p ∷ ps) c s =
    ⊎_elim
    (λ (h : holds p c ≡ true). (0, (omega arith, h)))
    (λ (h : stands_in ps c ≡ true). let r = place_of ps c h in (suc r.0, (omega (arith, r.1.0), r.1.1)))
    (or_cases (holds p c) (stands_in ps c) s)

store-standing : (ps : List Place) (c i : ℕ) (e : Entry) → stands_in ps c ≡ true → store_in i ps c e ≡ Some (replace_in ps c (place_for c e))
store-standing ps c i e s = cond-true (stands_in ps c) (Some (replace_in ps c (place_for c e))) (cond (vacant ps i) (Some (set ps i (place_for c e))) None) s

store-new : (ps : List Place) (c i : ℕ) (e : Entry) → stands_in ps c ≡ false → store_in i ps c e ≡ cond (vacant ps i) (Some (set ps i (place_for c e))) None
store-new ps c i e s = cond-false (stands_in ps c) (Some (replace_in ps c (place_for c e))) (cond (vacant ps i) (Some (set ps i (place_for c e))) None) s

some-true : {X : Type 0} (b : Bool) (x y : X) → cond b (Some x) None ≡ Some y → b ≡ true
some-true true x y e = refl
some-true false x y e = cc

-- whichever place an entry is stored in
pub entered : (ps qs : List Place) (c i : ℕ) (e : Entry) → Distinct ps → store_in i ps c e ≡ Some qs → Entered ps qs c e
entered ps qs c i e d s =
    ⊎_elim
    (λ (t : stands_in ps c ≡ true).
    let at = place_of ps c t in
    let o = offered-found ps c at.0 at.1 in
    by at.0 o (sym (stored ps c at.0 e d o) ∙ store-standing ps c at.0 e t ∙ sym (store-standing ps c i e t) ∙ s))
    (λ (t : stands_in ps c ≡ false).
    let o = offered-vacant ps c (Some i) t (some-true (vacant ps i) (set ps i (place_for c e)) qs (sym (store-new ps c i e t) ∙ s)) in
    by i o (sym (stored ps c i e d o) ∙ s))
    (cases_Bool (stands_in ps c))
  where
    by : (j : ℕ) → OfferedAt ps c j → Some (set ps j (place_for c e)) ≡ Some qs → Entered ps qs c e
    by j o same = let is : set ps j (place_for c e) ≡ qs = cc in subst (λ l. Entered ps l c e) is (entered_at ps c j e d o)

-- an entry that is there is replaced
pub replaces : (ps : List Place) (c : ℕ) (e : Entry) → (entry_in ps c ≡ Entry.Invalid → ⊥) → store_in 0 ps c e ≡ Some (replace_in ps c (place_for c e))
replaces ps c e valid =
    ⊎_elim
    (λ (t : stands_in ps c ≡ true). store-standing ps c 0 e t)
    (λ (t : stands_in ps c ≡ false). absurd (valid (invalid ps c t)))
    (cases_Bool (stands_in ps c))

-- an entry can be stored where not all places are taken

vacant-place : (ps : List Place) → taken_in ps < length ps → (i : ℕ) × (vacant ps i ≡ true)
vacant-place [] h = absurd (omega arith)
vacant-place (p ∷ ps) h =
    ⊎_elim
    (λ (t : is_taken p ≡ true).
    let fewer : taken_in ps < length ps = grind (arith, sum_by-cons (λ x. cond (is_taken x) 1 0) p ps, t, h) in
    let r = vacant-place ps fewer in
    let parts = and_parts (ltb r.0 (length ps)) (not (is_taken (get_or ps r.0 Empty))) r.1 in
    (suc r.0, and_from (ltb (suc r.0) (length (p ∷ ps))) (not (is_taken (get_or ps r.0 Empty))) (lt-ltb (suc r.0) (length (p ∷ ps)) (omega (arith, ltb-true r.0 (length ps) parts.0))) parts.1))
    (λ (t : is_taken p ≡ false). (0, and_from (ltb 0 (length (p ∷ ps))) (not (is_taken p)) (lt-ltb 0 (length (p ∷ ps)) (omega arith)) (not_from_false (is_taken p) t)))
    (cases_Bool (is_taken p))

pub storable : (ps : List Place) → taken_in ps < length ps → (i : ℕ) × ((c : ℕ) (e : Entry) → is_some (store_in i ps c e) ≡ true)
storable ps h =
    let v = vacant-place ps h in (
      v.0,
      λ c e.
          ⊎_elim
          (λ (t : stands_in ps c ≡ true). ap is_some (store-standing ps c v.0 e t))
          (λ (t : stands_in ps c ≡ false). ap is_some (store-new ps c v.0 e t ∙ cond-true (vacant ps v.0) (Some (set ps v.0 (place_for c e))) None v.1))
          (cases_Bool (stands_in ps c)),
    )

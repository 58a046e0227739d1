-- Finding a write by its number, and the highest-numbered write that passes.
use Rattle.std.proofs.Common.{◌≡◌, ℕ, zero, suc, refl, ◌+◌, ◌-◌, ◌<◌, ◌≤◌, Bool, true, false, cond, ◌&&◌, List, [], ◌∷◌, length, get_or, IfSome, Some, None, Option, sym, ap, ◌∙◌, subst, inl, add-one, arith}
use Rattle.std.specs.List.{slice_get}
use Rattle.std.proofs.lemmas.Bool.{true≢false, cond-true, cond-false}
use Rattle.model.specs.declared.event.Event.{Event}
use Rattle.order.specs.Order.{event_at, At}
use Rattle.order.specs.Test.{writer_in, writer_of, current, brings, brings_by, brings_in, highest, on_boards}
use Rattle.order.proofs.History.{none-not-some, at_none, at-get_or}
use Rattle.order.proofs.Legals.{highest-is}
use Rattle.order.proofs.Tests.{writer-low}

-- the event of a number is the element just below it in the list
pub get-event : (h : List Event) (i : ℕ) → slice_get h i ≡ event_at h (suc i)
get-event [] i = refl
get-event (e ∷ h) zero = refl
get-event (e ∷ h) (suc i) = get-event h i

pub event-below : (h : List Event) (n : ℕ) (d : Event) → (n ≡ 0 → ⊥) → n ≤ length h → Some (get_or h (n - 1) d) ≡ event_at h n
event-below h n d some low =
    let same : suc (n - 1) ≡ n = omega arith in
    sym (subst (λ k. At h k (get_or h (n - 1) d)) same (at-get_or h (n - 1) d (omega arith)))

pub writer-found : (h : List Event) (c n : ℕ) (o : Option ℕ) → on_boards h ≡ true → o ≡ writer_of h c n → IfSome o (λ p. p < 9)
writer-found h c n None f q = tt
writer-found h c n (Some p) f q = writer-low h c n p f (sym q)

-- the highest number that passes is the first that does, from the highest down
module _ (pass : ℕ → Bool) where
  none-passes : (n : ℕ) → ((k : ℕ) → k < n + 1 → pass k ≡ false) → highest pass n ≡ None
  none-passes zero f = cond-false (pass 0) (Some 0) None (f 0 (omega arith))
  none-passes (suc n) f = cond-false (pass (suc n)) (Some (suc n)) (highest pass n) (f (suc n) (omega arith)) ∙ none-passes n (λ k l. f k (omega arith))

  pub highest-last : (n : ℕ) (o : Option ℕ) → (o ≡ None → (k : ℕ) → k < n + 1 → pass k ≡ false) → ((m : ℕ) → o ≡ Some m → m < n + 1) → ((m : ℕ) → o ≡ Some m → pass m ≡ true) → ((m : ℕ) → o ≡ Some m → (k : ℕ) → m < k → k < n + 1 → pass k ≡ false) → o ≡ highest pass n
  highest-last n None none within passes above = sym (none-passes n (none refl))
  highest-last n (Some m) none within passes above =
      let low = within m refl in
      sym (highest-is pass n m (omega arith, passes m refl, λ k l u t. true≢false (sym t ∙ above m refl k l (omega arith))))

module _ (over : List ℕ) (h : List Event) (start c w : ℕ) where
  -- what is asked of a number, and what of the event that has it
  abbrev pub passing : ℕ → Bool
  passing n = current over n (writer_of h c n) && brings h start n w

  abbrev pub passed : ℕ → Event → Bool
  passed n e = current over n (writer_in c (Some e)) && brings_by e.action w

  pub at-some : (n : ℕ) (e : Event) → Some e ≡ event_at h n → passing n ≡ passed n e
  at-some zero e a = absurd (none-not-some (sym (at_none h 0 (inl refl)) ∙ sym a))
  at-some (suc n) e a = ap (λ (o : Option Event). current over (suc n) (writer_in c o) && brings_in o w) (sym a)

  module _ (i : ℕ) (d : Event) (some : 0 < i) (low : i ≤ length h) where
    abbrev last : Event
    last = get_or h (i - 1) d

    stands : At h (suc (i - 1)) last
    stands = at-get_or h (i - 1) d (omega arith)

    step : highest passing i ≡ cond (passed (i - 1 + 1) last) (Some (i - 1 + 1)) (highest passing (i - 1))
    step =
        let same : i ≡ suc (i - 1) = omega arith in
        ap (highest passing) same
        ∙ ap (λ (b : Bool). cond b (Some (suc (i - 1))) (highest passing (i - 1))) (ap (λ (o : Option Event). current over (suc (i - 1)) (writer_in c o) && brings_in o w) stands)
        ∙ ap (λ (n : ℕ). cond (passed n last) (Some n) (highest passing (i - 1))) (sym (add-one (i - 1)))

    pub take-it : passed (i - 1 + 1) last ≡ true → highest passing i ≡ Some (i - 1 + 1)
    take-it t = step ∙ cond-true (passed (i - 1 + 1) last) (Some (i - 1 + 1)) (highest passing (i - 1)) t

    pub leave-it : passed (i - 1 + 1) last ≡ false → highest passing i ≡ highest passing (i - 1)
    leave-it t = step ∙ cond-false (passed (i - 1 + 1) last) (Some (i - 1 + 1)) (highest passing (i - 1)) t

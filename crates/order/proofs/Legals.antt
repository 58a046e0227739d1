-- The test of legal finds the highest-numbered readable write with the word, and finds none exactly where there is none.
use Rattle.std.proofs.Common.{◌≡◌, ℕ, zero, suc, ◌<◌, ◌≤◌, Bool, true, false, ◌&&◌, eqb, ◌⊎◌, ◌↔◌, List, length, Some, None, Decides, Option, sym, refl, ap, ◌∙◌, subst, inl, inr, arith}
use Rattle.std.proofs.lemmas.Bool.{true≢false, cases_Bool, cases_order, eqb-true, eq-eqb, cond-true, cond-false, and_parts, and_from}
use Rattle.model.specs.declared.event.Action.{Action}
use Rattle.model.specs.declared.event.Event.{Event}
use Rattle.order.specs.Order.{Point, initial_write, initial_release, event, numbered, IsWrite, Brings, Readable, Legal}
use Rattle.order.specs.Test.{readable, brings_by, brings_in, brings, highest, legal_under, legal, on_boards, LegalBy, LegalDecided}
use Rattle.order.proofs.History.{nothing-not-some, some_same, at-within, at_same, write_same}
use Rattle.order.proofs.Tests.{readable-tells}

-- ── the highest number that passes ──

module _ (pass : ℕ → Bool) where
  abbrev pub IsHighest : (n m : ℕ) → Type 0
  IsHighest n m = (m ≤ n) × (pass m ≡ true) × ((k : ℕ) → m < k → k ≤ n → pass k ≡ true → ⊥)

  pub highest-found : (n m : ℕ) → highest pass n ≡ Some m → IsHighest n m
  highest-found zero m e = go (cases_Bool (pass 0))
    where
      go : (pass 0 ≡ true) ⊎ (pass 0 ≡ false) → IsHighest 0 m
      go (inl t) = let z : 0 ≡ m = some_same (sym (cond-true (pass 0) (Some 0) None t) ∙ e) in (omega arith, ap pass (sym z) ∙ t, λ k l u s. omega arith)
      go (inr f) = absurd (nothing-not-some (sym (cond-false (pass 0) (Some 0) None f) ∙ e))
  highest-found (suc n) m e = go (cases_Bool (pass (suc n))) (highest-found n m)
    where
      go : (pass (suc n) ≡ true) ⊎ (pass (suc n) ≡ false) → (highest pass n ≡ Some m → IsHighest n m) → IsHighest (suc n) m
      go (inl t) r = let z : suc n ≡ m = some_same (sym (cond-true (pass (suc n)) (Some (suc n)) (highest pass n) t) ∙ e) in (omega arith, ap pass (sym z) ∙ t, λ k l u s. omega arith)
      go (inr f) r = (omega (arith, below.0), below.1, above)
        where
          below : IsHighest n m
          below = r (sym (cond-false (pass (suc n)) (Some (suc n)) (highest pass n) f) ∙ e)

          above : (k : ℕ) → m < k → k ≤ suc n → pass k ≡ true → ⊥
          above k l u t = on (cases_order k (suc n))
            where
              on : (k ≡ suc n) ⊎ ((k < suc n) ⊎ (suc n < k)) → ⊥
              on (inl p) = true≢false (sym t ∙ ap pass p ∙ f)
              on (inr (inl p)) = below.2 k l (omega arith) t
              on (inr (inr p)) = omega arith

  pub highest-none : (n : ℕ) → highest pass n ≡ None → (k : ℕ) → k ≤ n → pass k ≡ true → ⊥
  highest-none zero e k u t = let z : k ≡ 0 = omega arith in nothing-not-some (sym e ∙ cond-true (pass 0) (Some 0) None (ap pass (sym z) ∙ t))
  highest-none (suc n) e k u t = go (cases_Bool (pass (suc n))) (highest-none n)
    where
      go : (pass (suc n) ≡ true) ⊎ (pass (suc n) ≡ false) → (highest pass n ≡ None → (i : ℕ) → i ≤ n → pass i ≡ true → ⊥) → ⊥
      go (inl s) r = nothing-not-some (sym e ∙ cond-true (pass (suc n)) (Some (suc n)) (highest pass n) s)
      go (inr f) r = on (cases_order k (suc n))
        where
          on : (k ≡ suc n) ⊎ ((k < suc n) ⊎ (suc n < k)) → ⊥
          on (inl p) = true≢false (sym t ∙ ap pass p ∙ f)
          on (inr (inl p)) = r (sym (cond-false (pass (suc n)) (Some (suc n)) (highest pass n) f) ∙ e) k (omega arith) t
          on (inr (inr p)) = omega arith

  pub highest-is : (n m : ℕ) → IsHighest n m → highest pass n ≡ Some m
  highest-is n m (u, t, above) = go (highest pass n) refl
    where
      go : (o : Option ℕ) → highest pass n ≡ o → o ≡ Some m
      go None e = absurd (highest-none n e m u t)
      go (Some k) e = on (cases_order k m) (highest-found n k e)
        where
          on : (k ≡ m) ⊎ ((k < m) ⊎ (m < k)) → IsHighest n k → Some k ≡ Some m
          on (inl p) r = ap {B = Option ℕ} Some p
          on (inr (inl p)) r = absurd (r.2 m p u t)
          on (inr (inr p)) r = absurd (above k p r.0 r.1)

-- ── words ──

pub brings-decided : (h : List Event) (start c n w : ℕ) → IsWrite h c (numbered n) → Decides (brings h start n w) (Brings h start c (numbered n) w)
brings-decided h start c zero w write = (eqb-true start w, eq-eqb start w)
brings-decided h start c (suc n) w (e, v, stands, is) = (λ t. (e, stands, (is.0, is.1 ∙ ap Action.Write (eqb-true v w (sym read ∙ t)))), λ b. read ∙ eq-eqb v w (word b))
  where
    read : brings h start (suc n) w ≡ eqb v w
    read = ap (λ (o : Option Event). brings_in o w) stands ∙ ap (λ (a : Action). brings_by a w) is.1

    word : Brings h start c (event (suc n)) w → v ≡ w
    word (f, s, r) = write_same is.1 (ap (λ (i : Event). i.action) (at_same h (suc n) e f stands s) ∙ r.1)

-- each write has a number
pub write-number : (h : List Event) (c : ℕ) (x : Point) → IsWrite h c x → (n : ℕ) × (x ≡ numbered n) × (n ≤ length h)
write-number h c initial_write w = (0, refl, omega arith)
write-number h c initial_release w = absurd w
write-number h c (event zero) w = let i = at-within h 0 w.0 w.2 in absurd (omega arith)
write-number h c (event (suc n)) w = let i = at-within h (suc n) w.0 w.2 in (suc n, refl, omega arith)

numbered-length : (h : List Event) (c n : ℕ) → IsWrite h c (numbered n) → n ≤ length h
numbered-length h c zero w = omega arith
numbered-length h c (suc n) w = let i = at-within h (suc n) w.0 w.2 in omega arith

-- ── legal ──

module _ (h : List Event) (start c b w : ℕ) (f : on_boards h ≡ true) (small : b < 8) where
  pass-decided : (n : ℕ) → Decides (readable h c b n && brings h start n w) (Readable h c b (numbered n) × Brings h start c (numbered n) w)
  pass-decided n = (there, back)
    where
      r : Decides (readable h c b n) (Readable h c b (numbered n))
      r = readable-tells h c b n f small

      there : (readable h c b n && brings h start n w) ≡ true → Readable h c b (numbered n) × Brings h start c (numbered n) w
      there t =
          let p = and_parts (readable h c b n) (brings h start n w) t in
          let i = r.0 p.0 in
          (i, (brings-decided h start c n w i.write).0 p.1)

      back : Readable h c b (numbered n) × Brings h start c (numbered n) w → (readable h c b n && brings h start n w) ≡ true
      back (i, k) = and_from (readable h c b n) (brings h start n w) (r.1 i) ((brings-decided h start c n w i.write).1 k)

  pub legal-found : (n : ℕ) → (legal h start c b w ≡ Some n) ↔ LegalBy h start c b w n
  unfolding legal_under
  legal-found n = (there, back)
    where
      there : legal h start c b w ≡ Some n → LegalBy h start c b w n
      there e =
          let r = highest-found (λ k. readable h c b k && brings h start k w) (length h) n e in
          let i = (pass-decided n).0 r.1 in
          record { readable = i.0; brings = i.1; highest = λ m l p q. r.2 m l (numbered-length h c m p.write) ((pass-decided m).1 (p, q)) }

      back : LegalBy h start c b w n → legal h start c b w ≡ Some n
      back r = highest-is (λ k. readable h c b k && brings h start k w) (length h) n (numbered-length h c n r.readable.write, (pass-decided n).1 (r.readable, r.brings), λ m l u t. let i = (pass-decided m).0 t in r.highest m l i.0 i.1)

  pub legal_none : (legal h start c b w ≡ None) ↔ (Legal h start c b w → ⊥)
  unfolding legal_under
  legal_none = (there, back)
    where
      there : legal h start c b w ≡ None → Legal h start c b w → ⊥
      there e l = go (write-number h c l.write l.readable.write)
        where
          go : (n : ℕ) × (l.write ≡ numbered n) × (n ≤ length h) → ⊥
          go (n, p, u) = highest-none (λ k. readable h c b k && brings h start k w) (length h) e n u ((pass-decided n).1 (subst (Readable h c b) p l.readable, subst (λ x. Brings h start c x w) p l.brings))

      back : (Legal h start c b w → ⊥) → legal h start c b w ≡ None
      back none = go (legal h start c b w) refl
        where
          go : (o : Option ℕ) → legal h start c b w ≡ o → o ≡ None
          go None e = refl
          go (Some n) e = let r = (legal-found n).0 e in absurd (none (record { write = numbered n; readable = r.readable; brings = r.brings }))

pub legal-decided : LegalDecided
unfolding LegalDecided
legal-decided = (λ h start c b w n f small. legal-found h start c b w f small n, λ h start c b w f small. legal_none h start c b w f small)

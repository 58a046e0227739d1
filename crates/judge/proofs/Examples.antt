-- The worked examples, computed by the tests, which decide.
use Rattle.std.proofs.Common.{◌≡◌, ℕ, zero, suc, ◌<◌, Bool, true, false, ◌&&◌, ◌||◌, eqb, ltb, ◌⊎◌, List, [], ◌∷◌, Some, None, Ok, Option, sym, refl, ap, inl, inr, arith}
use Rattle.std.proofs.lemmas.Bool.{true≢false, lt-ltb, eqb-true, and_parts, and_from, or_cases}
use Rattle.std.proofs.lemmas.Bool.Decides.{Decides-below_and}
use Rattle.model.specs.declared.event.Action.{Action}
use Rattle.model.specs.declared.event.Event.{Event}
use Rattle.order.specs.Order.{more, Disciplined}
use Rattle.order.specs.Test.{legal_under, legal, on_boards, owner_of}
use Rattle.order.proofs.Legals.{legal-found, legal_none}
use Rattle.judge.specs.Examples.{does, hand_over, HandedOver, Examples}
use Rattle.judge.specs.Judging.{allowed}
use Rattle.judge.proofs.Discipline.{disciplined-none, disciplined-more, held_by}

-- ── every two boards ──

abbrev same : Option ℕ → Option ℕ → Bool
same None None = true
same None (Some n) = false
same (Some m) None = false
same (Some m) (Some n) = eqb m n

same-is : (o r : Option ℕ) → same o r ≡ true → o ≡ r
same-is None None q = refl
same-is None (Some n) q = absurd (true≢false (sym q))
same-is (Some m) None q = absurd (true≢false (sym q))
same-is (Some m) (Some n) q = ap {B = Option ℕ} Some (eqb-true m n q)

answers : (p q : ℕ) → Bool
answers p q = same (legal (hand_over p q) 0 0 q 1) (Some 2) && (same (legal (hand_over p q) 0 0 q 2) (Some 4) && same (legal (hand_over p q) 0 0 q 0) None)

every : (ℕ → Bool) → ℕ → Bool
every f zero = true
every f (suc n) = f n && every f n

all : every (λ p. every (λ q. eqb p q || answers p q) 8) 8 ≡ true
unfolding every answers legal_under
all = refl

every-at : (f : ℕ → Bool) (n k : ℕ) → every f n ≡ true → k < n → f k ≡ true
unfolding every
every-at f n k e l = (Decides-below_and f (λ i. f i ≡ true) (every f) (λ i. (λ t. t, λ t. t)) refl (λ i. refl) n).0 e k l

-- ── the histories ──

boards-of : (p q : ℕ) → p < 8 → q < 8 → on_boards (hand_over p q) ≡ true
boards-of p q l m =
    let i = lt-ltb p 8 l in
    let j = lt-ltb q 8 m in
    let two = and_from (ltb q 8) (ltb q 8 && true) j (and_from (ltb q 8) true j refl) in
    and_from (ltb p 8) _ i (and_from (ltb p 8) _ i (and_from (ltb p 8) (ltb q 8 && (ltb q 8 && true)) i two))

disciplined : (p q : ℕ) → Disciplined (hand_over p q)
disciplined p q = add (add (add (add (add disciplined-none (does p Action.Acquire) refl) (does p (Action.Write 1)) refl) (does p Action.Release) (held_by p)) (does q (Action.Write 2)) refl) (does q Action.Acquire) refl
  where
    add : {h : List Event} → Disciplined h → (e : Event) → allowed (owner_of h e.cell) e.board e.action ≡ Ok tt → Disciplined (more h e)
    add {h} k e q = (disciplined-more h e).1 (k, q)

handed_over : (p q : ℕ) → p < 8 → q < 8 → (p ≡ q → ⊥) → HandedOver p q
unfolding answers
handed_over p q l m apart = record {
  disciplined = disciplined p q;
  one = (legal-found (hand_over p q) 0 0 q 1 f m 2).0 (same-is (legal (hand_over p q) 0 0 q 1) (Some 2) three.0);
  two = (legal-found (hand_over p q) 0 0 q 2 f m 4).0 (same-is (legal (hand_over p q) 0 0 q 2) (Some 4) rest.0);
  not_zero = (legal_none (hand_over p q) 0 0 q 0 f m).0 (same-is (legal (hand_over p q) 0 0 q 0) None rest.1);
}
  where
    f : on_boards (hand_over p q) ≡ true
    f = boards-of p q l m

    shown : answers p q ≡ true
    shown = go (or_cases (eqb p q) (answers p q) (every-at (λ j. eqb p j || answers p j) 8 q (every-at (λ i. every (λ j. eqb i j || answers i j) 8) 8 p all l) m))
      where
        go : (eqb p q ≡ true) ⊎ (answers p q ≡ true) → answers p q ≡ true
        go (inl t) = absurd (apart (eqb-true p q t))
        go (inr t) = t

    three : (same (legal (hand_over p q) 0 0 q 1) (Some 2) ≡ true) × ((same (legal (hand_over p q) 0 0 q 2) (Some 4) && same (legal (hand_over p q) 0 0 q 0) None) ≡ true)
    three = and_parts (same (legal (hand_over p q) 0 0 q 1) (Some 2)) (same (legal (hand_over p q) 0 0 q 2) (Some 4) && same (legal (hand_over p q) 0 0 q 0) None) shown

    rest : (same (legal (hand_over p q) 0 0 q 2) (Some 4) ≡ true) × (same (legal (hand_over p q) 0 0 q 0) None ≡ true)
    rest = and_parts (same (legal (hand_over p q) 0 0 q 2) (Some 4)) (same (legal (hand_over p q) 0 0 q 0) None) three.1

pub examples : Examples
unfolding Examples legal_under
examples = record {
  handed_over = handed_over;
  lone_start = (legal-found (does 1 (Action.Write 2) ∷ []) 0 0 1 0 refl (omega arith) 0).0 refl;
  lone_write = (legal-found (does 1 (Action.Write 2) ∷ []) 0 0 1 2 refl (omega arith) 1).0 refl;
  twice = (legal_none (does 0 (Action.Write 1) ∷ does 0 (Action.Write 2) ∷ []) 0 0 0 1 refl (omega arith)).0 refl;
}

-- What stands at the front of a list of bytes.
use Rattle.std.proofs.Common.{◌≡◌, ℕ, ◌-◌, ◌<◌, ◌≤◌, eqb, List, [], ◌∷◌, ◌++◌, length, get_or, take, drop, Some, None, Option, sym, refl, ap, ◌∙◌, arith, Bor, MatchOption}
use Rattle.std.specs.List.{between}
use Rattle.std.specs.Option.{option_map}
use Rattle.std.proofs.lemmas.List.{take_rest}
use Rattle.std.proofs.lemmas.Slice.{first_rest}
use Rattle.std.proofs.lemmas.Bool.{eq-eqb, cond-true}
use Rattle.std.proofs.lemmas.Bool.Decides.{nat_tests}
use Rattle.grammar.specs.Numbers.{first_byte}
use Rattle.grammar.specs.Pieces.{letter_and_rest}
use Rattle.grammar.specs.Fields.{after}

pub first-is : (s : List ℕ) → 0 < length s → Some (get_or s 0 0, between 1 (length s) s) ≡ first_byte s
first-is s h = sym (ap first_byte (first_rest s 0 h))

pub letter-is : (l : List ℕ) → 2 ≤ length l → get_or l 1 0 ≡ 61 → Some (get_or l 0 0, take (length l - 2) (drop 2 l)) ≡ letter_and_rest l
letter-is [] h e = absurd (omega arith)
letter-is (a ∷ []) h e = absurd (omega arith)
letter-is (a ∷ b ∷ rest) h e =
    ap (λ r. Some (a, r)) (take_rest (a ∷ b ∷ rest) 2) ∙ sym (cond-true (eqb b 61) (Some (a, rest)) None (eq-eqb b 61 e))

pub after-append : (p x : List ℕ) → after p (p ++ x) ≡ Some x
after-append [] x = refl
after-append (c ∷ p) x = let rest = after-append p x in grind (arith, nat_tests)

-- where nothing follows p, the line does not begin with it
after_none : (p l : List ℕ) → ((x : List ℕ) → l ≡ p ++ x → ⊥) → after p l ≡ None
after_none [] l h = absurd (h l refl)
after_none (c ∷ p) [] h = refl
after_none (c ∷ p) (d ∷ l) h =
    let rest = after_none p l in
    grind (arith, nat_tests)

pub after_is : (p l : List ℕ) (r : Option (Bor (List ℕ))) → MatchOption r ((x : List ℕ) → l ≡ p ++ x → ⊥) (λ x. l ≡ p ++ x.now) → option_map (λ (x : Bor (List ℕ)). x.now) r ≡ after p l
after_is p l None h = sym (after_none p l h)
after_is p l (Some x) h = sym (ap (after p) h ∙ after-append p x.now)

pub nine-is : (l : List ℕ) → length l ≡ 9 → l ≡ get_or l 0 0 ∷ get_or l 1 0 ∷ get_or l 2 0 ∷ get_or l 3 0 ∷ get_or l 4 0 ∷ get_or l 5 0 ∷ get_or l 6 0 ∷ get_or l 7 0 ∷ get_or l 8 0 ∷ []
nine-is [] h = absurd (omega arith)
nine-is (a ∷ []) h = absurd (omega arith)
nine-is (a ∷ b ∷ []) h = absurd (omega arith)
nine-is (a ∷ b ∷ c ∷ []) h = absurd (omega arith)
nine-is (a ∷ b ∷ c ∷ d ∷ []) h = absurd (omega arith)
nine-is (a ∷ b ∷ c ∷ d ∷ e ∷ []) h = absurd (omega arith)
nine-is (a ∷ b ∷ c ∷ d ∷ e ∷ f ∷ []) h = absurd (omega arith)
nine-is (a ∷ b ∷ c ∷ d ∷ e ∷ f ∷ g ∷ []) h = absurd (omega arith)
nine-is (a ∷ b ∷ c ∷ d ∷ e ∷ f ∷ g ∷ i ∷ []) h = absurd (omega arith)
nine-is (a ∷ b ∷ c ∷ d ∷ e ∷ f ∷ g ∷ i ∷ j ∷ []) h = refl
nine-is (a ∷ b ∷ c ∷ d ∷ e ∷ f ∷ g ∷ i ∷ j ∷ k ∷ l) h = absurd (omega arith)

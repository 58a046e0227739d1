-- One turn of the loop over the digits of a number.
use Rattle.std.proofs.Common.{◌≡◌, ℕ, ◌+◌, ◌-◌, ◌*◌, ◌<◌, ◌≤◌, true, false, List, length, get_or, take, drop, Some, None, sym, ap, ◌∙◌, arith}
use Rattle.std.specs.Char.{is_ascii_digit}
use Rattle.std.proofs.lemmas.List.{take_rest, drop_more, at_drop_more}
use Rattle.std.proofs.lemmas.Bool.{le-leb, lt-leb, cond-true, cond-false}
use Rattle.grammar.specs.Numbers.{digits}

-- d is the value of the digit at i
module _ (n i d : ℕ) (s : List ℕ) (h : i < length s) (e : d ≡ get_or s i 0 - 48) where
  pub too_large : true ≡ is_ascii_digit (get_or s i 0) → 4294967295 < n * 10 + d → None ≡ digits n (drop i s)
  too_large t m =
      sym (at_drop_more (digits n) s i 0 h ∙ cond-true _ _ _ (sym t) ∙ cond-false _ _ _ (lt-leb (n * 10 + (get_or s i 0 - 48)) 4294967295 (omega arith)))

  pub one_more : true ≡ is_ascii_digit (get_or s i 0) → n * 10 + d ≤ 4294967295 → digits (n * 10 + d) (drop (i + 1) s) ≡ digits n (drop i s)
  one_more t m =
      ap (λ k. digits (n * 10 + k) (drop (i + 1) s)) e
      ∙ sym (at_drop_more (digits n) s i 0 h ∙ cond-true _ _ _ (sym t) ∙ cond-true _ _ _ (le-leb (n * 10 + (get_or s i 0 - 48)) 4294967295 (omega arith)))

pub at_other : (n i : ℕ) (s : List ℕ) → i < length s → false ≡ is_ascii_digit (get_or s i 0) → Some (n, take (length s - i) (drop i s)) ≡ digits n (drop i s)
at_other n i s h e = ap (λ r. Some (n, r)) (take_rest s i ∙ drop_more s i 0 h) ∙ sym (at_drop_more (digits n) s i 0 h ∙ cond-false _ _ _ (sym e))

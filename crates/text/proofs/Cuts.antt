-- Where a text is cut into lines, and one line further on in it.
use Rattle.std.proofs.Common.{◌≡◌, ℕ, ◌+◌, ◌<◌, ◌≤◌, false, eqb, List, [], ◌∷◌, length, take, drop, Some, None, Option, sym, refl, ap, ◌∙◌, add-one, arith, length-drop}
use Rattle.std.specs.List.{position, position_or_len}
use Rattle.std.proofs.lemmas.List.{drop-drop}
use Rattle.std.proofs.lemmas.Bool.Decides.{nat_tests}
use Rattle.text.specs.declared.position.Position.{Position}
use Rattle.text.specs.Lines.{grown, lines}
use Rattle.text.specs.Readers.{lines_at, first_line, later_lines, no_lines, Further}

-- where the first byte 10 of a text stands, or its length
abbrev line_end : List ℕ → ℕ
line_end s = position_or_len (λ c. eqb c 10) s

-- a text that has a byte 10 begins with a line
lines_more : (s : List ℕ) → line_end s < length s → lines s ≡ Some (take (line_end s) s) ∷ lines (drop (line_end s + 1) s)
lines_more [] h = absurd (omega arith)
lines_more (c ∷ cs) h =
    let rest = lines_more cs in
    let next : 1 + line_end cs ≡ line_end cs + 1 = omega arith in
    grind (arith, nat_tests, add-one)

-- one that has none, and is not empty, is no line
lines_cut : (c : ℕ) (cs : List ℕ) → length (c ∷ cs) ≤ line_end (c ∷ cs) → lines (c ∷ cs) ≡ None ∷ []
lines_cut c [] n = grind (arith, nat_tests)
lines_cut c (d ∷ cs) n =
    let rest = lines_cut d cs in
    grind (arith, nat_tests)

none_first : (s : List ℕ) → length s ≤ line_end s → None ≡ first_line (lines s)
none_first [] h = refl
none_first (c ∷ cs) h = sym (ap first_line (lines_cut c cs h))

-- r is what a text has from the position p on
module _ (text r : List ℕ) (p : Position) (t : r ≡ drop p.byte text) where
  pub no_line : None ≡ position (λ c. eqb c 10) r → None ≡ first_line (lines_at text p)
  no_line e = none_first r (grind (arith, nat_tests)) ∙ ap (λ s. first_line (lines s)) t

  module _ (n : ℕ) (e : Some n ≡ position (λ c. eqb c 10) r) where
    stands : (n ≡ line_end r) × (line_end r < length r)
    stands = grind (arith, nat_tests)

    split : lines_at text p ≡ Some (take n r) ∷ lines (drop (n + 1) r)
    split = ap lines (sym t) ∙ rw (stands.0) (lines_more r stands.1)

    pub line-is : Some (take n r) ≡ first_line (lines_at text p)
    line-is = sym (ap first_line split)

    pub line-passed : (new : Position) → new ≡ record { byte = p.byte + n + 1; line = p.line + 1 } → p.line ≤ p.byte → p.byte ≤ length text → Further text p new
    line-passed new q counted within =
        let long = ap length t ∙ length-drop p.byte text in
        let byte : new.byte ≡ p.byte + (n + 1) = omega (arith, ap (λ a. a.byte) q) in
        let s = stands in
        record {
          lines_left = ap (λ k. lines (drop k text)) byte
              ∙ ap lines (sym (drop-drop (n + 1) p.byte text))
              ∙ ap (λ s. lines (drop (n + 1) s)) (sym t)
              ∙ sym (ap later_lines split);
          one_more = ap (λ a. a.line) q;
          within = omega arith;
          counted = omega (arith, ap (λ a. a.line) q);
        }

-- only an empty text has no lines

some-grown : (c : ℕ) (ls : List (Option (List ℕ))) → false ≡ no_lines (grown c ls)
some-grown c [] = refl
some-grown c (None ∷ ls) = refl
some-grown c (Some l ∷ ls) = refl

none-lines : (s : List ℕ) → eqb (length s) 0 ≡ no_lines (lines s)
none-lines [] = refl
none-lines (c ∷ cs) =
    let more = some-grown c (lines cs) in
    grind (arith, nat_tests)

pub none_left : (text : List ℕ) (k : ℕ) → k ≤ length text → eqb k (length text) ≡ no_lines (lines (drop k text))
none_left text k h = (let e = length-drop k text in grind (arith, nat_tests)) ∙ none-lines (drop k text)

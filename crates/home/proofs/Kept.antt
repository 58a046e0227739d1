-- The pairs of a pair home: the words that they stand for, and what one more write makes of them.
use Rattle.std.proofs.Common.{◌≡◌, ℕ, zero, suc, ◌<◌, true, false, cond, eqb, ltb, nat_eq, ◌&&◌, ◌≢◌, List, [], ◌∷◌, ◌++◌, map, length, get_or, set, replicate, Some, None, unwrap_or, sym, refl, ap, ◌∙◌, subst, arith}
use Rattle.std.proofs.lemmas.Grind.{common_steps}
use Rattle.std.specs.List.{refill, position, position_or_len, find, list_any, list_all, AllPairs, IsDistinct}
use Rattle.std.specs.Option.{option_map}
use Rattle.std.specs.Cmp.{nat_eq_equiv}
use Rattle.std.proofs.Math.Seq.{map-set_same}
use Rattle.std.proofs.lemmas.List.{ext_get_or, length-map, length-append, map-append}
use Rattle.std.proofs.lemmas.List.Folds.{find_at, find-set, find_past, find-append, list_all-append, list_all-map}
use Rattle.std.proofs.lemmas.List.FromFn.{length-map-range_with_len, get_or-map-range_with_len}
use Rattle.std.proofs.lemmas.List.Quantifiers.{position-Some}
use Rattle.std.proofs.lemmas.List.Sums.{position_or_len_is}
use Rattle.std.proofs.lemmas.Map.Keys.{IsDistinct-push}
use Rattle.std.proofs.lemmas.Map.Made.{AllPairs-from_IsDistinct, IsDistinct-from_AllPairs}
use Rattle.std.proofs.lemmas.Bool.Decides.{Decides-eqb}
use Rattle.std.proofs.lemmas.Map.Steps.{length-le_from_distinct_below}
use Rattle.std.proofs.lemmas.Option.{slice_get_past}
use Rattle.std.proofs.lemmas.Bool.{and_parts, and_from, eq-eqb, eqb-true, lt-ltb}
use Rattle.home.specs.declared.pair.Pair.{Pair}
use Rattle.home.specs.Pairs.{word_in, pair_words, within, Once}

abbrev pub pair : ℕ → ℕ → Pair
pair c w = record { cell = c; word = w }

abbrev pub blank : Pair
blank = pair 0 0

-- the words

pub words-length : (n s : ℕ) (ps : List Pair) → length (pair_words n s ps) ≡ n
unfolding pair_words
words-length n s ps = length-map-range_with_len (λ c. unwrap_or (word_in ps c) s) 0 n

pub words-at : (n s : ℕ) (ps : List Pair) (c : ℕ) → c < n → get_or (pair_words n s ps) c 0 ≡ unwrap_or (word_in ps c) s
unfolding pair_words
words-at n s ps c h = get_or-map-range_with_len (λ c. unwrap_or (word_in ps c) s) 0 n c c 0 h (omega arith)

pub words-none : (n s : ℕ) → pair_words n s [] ≡ replicate n s
words-none n s =
    ext_get_or 0 (pair_words n s []) (replicate n s) (grind (arith, common_steps, words-length))
    (λ k h. grind (arith, common_steps, words-length, words-at))

-- the pairs ps' have the word w for cell c, and for every other cell what ps have
abbrev pub Puts : List Pair → ℕ → ℕ → List Pair → Type 0
Puts ps c w ps' = (k : ℕ) → word_in ps' k ≡ cond (eqb c k) (Some w) (word_in ps k)

pub words-put : (n s : ℕ) (ps ps' : List Pair) (c w : ℕ) → c < n → Puts ps c w ps' → pair_words n s ps' ≡ set (pair_words n s ps) c w
words-put n s ps ps' c w h e =
    ext_get_or 0 (pair_words n s ps') (set (pair_words n s ps) c w) (grind (arith, common_steps, words-length))
    (λ k l. grind (arith, common_steps, words-length, words-at, e k))

abbrev cells_of : List Pair → List ℕ
cells_of ps = map (λ p. p.cell) ps

-- a pair is written through the slice that the list lends
pub stored : (ps qs : List Pair) (i : ℕ) (p : Pair) → qs ≡ ps → refill (length ps) ps (set qs i p) ≡ set ps i p
stored ps qs i p e = rw e (grind (arith, common_steps))

-- a pair is replaced: its cell is below n, and was that of the pair before

pub within-set : (n : ℕ) (ps : List Pair) (j c w : ℕ) → within n ps ≡ true → c < n → within n (set ps j (pair c w)) ≡ true
within-set n [] j c w h l = refl
within-set n (p ∷ ps) zero c w h l = and_from (ltb c n) (within n ps) (lt-ltb c n l) (and_parts (ltb p.cell n) (within n ps) h).1
within-set n (p ∷ ps) (suc j) c w h l =
    let parts = and_parts (ltb p.cell n) (within n ps) h in
    and_from (ltb p.cell n) (within n (set ps j (pair c w))) parts.0 (within-set n ps j c w parts.1 l)

cells-set : (ps : List Pair) (j c w : ℕ) → (get_or ps j blank).cell ≡ c → cells_of (set ps j (pair c w)) ≡ cells_of ps
cells-set ps j c w e = map-set_same (λ p. p.cell) ps j (pair c w) blank (sym e)

pub once-set : (ps : List Pair) (j c w : ℕ) → Once ps → (get_or ps j blank).cell ≡ c → Once (set ps j (pair c w))
once-set ps j c w o e = subst (AllPairs (λ c d. c ≢ d)) (sym (cells-set ps j c w e)) o

-- the first pair of cell c, at i, is replaced
module _ (ps : List Pair) (i c w : ℕ) (at : position (λ p. eqb p.cell c) ps ≡ Some i) where
  abbrev old : Pair
  old = get_or ps i blank

  there : (i < length ps) × (eqb old.cell c ≡ true) × ((k : ℕ) → k < i → eqb (get_or ps k (pair 0 0)).cell c ≡ false)
  there = position-Some (λ p. eqb p.cell c) ps i (pair 0 0) at

  same : old.cell ≡ c
  same = eqb-true old.cell c there.1

  cells_replaced : cells_of (set ps i (pair c w)) ≡ cells_of ps
  cells_replaced = cells-set ps i c w same

  pub within_replaced : (n : ℕ) → within n ps ≡ true → within n (set ps i (pair c w)) ≡ true
  within_replaced n h =
      sym (list_all-map (λ c. ltb c n) (λ p. p.cell) (set ps i (pair c w)))
      ∙ ap (list_all (λ c. ltb c n)) cells_replaced
      ∙ list_all-map (λ c. ltb c n) (λ p. p.cell) ps
      ∙ h

  pub once_replaced : Once ps → Once (set ps i (pair c w))
  once_replaced o = once-set ps i c w o same

  pub puts : Puts ps c w (set ps i (pair c w))
  puts k =
      let first : i ≡ position_or_len (λ p. eqb p.cell c) ps = sym (position_or_len_is (λ p. eqb p.cell c) ps i (pair 0 0) (omega (arith, there.0)) there.2 (λ _. there.1)) in
      let here = find-set (λ p. eqb p.cell c) ps i (pair c w) first there.0 (eq-eqb c c refl) in
      grind (arith, common_steps, here, find_past (λ p. eqb p.cell k) ps i (pair c w) (pair 0 0), same)

  pub words_replaced : (n s : ℕ) → c < n → pair_words n s (set ps i (pair c w)) ≡ set (pair_words n s ps) c w
  words_replaced n s h = words-put n s ps (set ps i (pair c w)) c w h puts

-- no pair has a cell that none is found for
unseen : (ps : List Pair) (c : ℕ) → find (λ p. eqb p.cell c) ps ≡ None → list_any (eqb c) (cells_of ps) ≡ false
unseen [] c h = refl
unseen (p ∷ ps) c h = grind (arith, common_steps, unseen ps c)

-- a number of a list that is all below n
below : (n : ℕ) (cs : List ℕ) → list_all (λ c. ltb c n) cs ≡ true → (q : ℕ) → list_any (eqb q) cs ≡ true → q < n
below n [] h q m = absurd cc
below n (c ∷ cs) h q m = grind (arith, common_steps, below n cs)

-- a pair follows the others: its cell is below n, and had no word

word-none : (ps : List Pair) (c : ℕ) → word_in ps c ≡ None → find (λ p. eqb p.cell c) ps ≡ None
word-none ps c h = grind (arith, common_steps)

pub word-push : (ps : List Pair) (c w : ℕ) → word_in ps c ≡ None → Puts ps c w (ps ++ pair c w ∷ [])
word-push ps c w h k = grind (arith, common_steps, word-none ps c h, find-append (λ p. eqb p.cell k) ps (pair c w ∷ []))

pub within-push : (n : ℕ) (ps : List Pair) (c w : ℕ) → within n ps ≡ true → c < n → within n (ps ++ pair c w ∷ []) ≡ true
within-push n ps c w h l =
    list_all-append (λ p. ltb p.cell n) ps (pair c w ∷ [])
    ∙ and_from (within n ps) (ltb c n && true) h (and_from (ltb c n) true (lt-ltb c n l) refl)

distinct-push : (ps : List Pair) (c w : ℕ) → Once ps → find (λ p. eqb p.cell c) ps ≡ None → IsDistinct nat_eq (cells_of (ps ++ pair c w ∷ []))
distinct-push ps c w o none =
    subst (IsDistinct nat_eq) (sym (map-append (λ p. p.cell) ps (pair c w ∷ [])))
    (IsDistinct-push nat_eq_equiv (cells_of ps) c (IsDistinct-from_AllPairs Decides-eqb (cells_of ps) o) (unseen ps c none))

pub once-push : (ps : List Pair) (c w : ℕ) → Once ps → word_in ps c ≡ None → Once (ps ++ pair c w ∷ [])
once-push ps c w o h = AllPairs-from_IsDistinct Decides-eqb (cells_of (ps ++ pair c w ∷ [])) (distinct-push ps c w o (word-none ps c h))

-- the first pair of cell c follows the others
module _ (ps : List Pair) (c w : ℕ) (none : position (λ p. eqb p.cell c) ps ≡ None) where
  abbrev more : List Pair
  more = ps ++ pair c w ∷ []

  find_none : find (λ p. eqb p.cell c) ps ≡ None
  find_none = grind (arith, common_steps, find_at, slice_get_past)

  pub words_added : (n s : ℕ) → c < n → pair_words n s more ≡ set (pair_words n s ps) c w
  words_added n s h = words-put n s ps more c w h (word-push ps c w (ap (option_map (λ p. p.word)) find_none))

  distinct : Once ps → IsDistinct nat_eq (cells_of more)
  distinct o = distinct-push ps c w o find_none

  pub once_added : Once ps → Once more
  once_added o = AllPairs-from_IsDistinct Decides-eqb (cells_of more) (distinct o)

  pub within_added : (n : ℕ) → within n ps ≡ true → c < n → within n more ≡ true
  within_added n h l = within-push n ps c w h l

  -- there is room for it: no cell below n has two pairs, so there are at most n
  pub room : (n : ℕ) → within n ps ≡ true → Once ps → c < n → length ps < n
  room n h o l =
      let most = length-le_from_distinct_below (cells_of more) n (distinct o) (below n (cells_of more) (list_all-map (λ c. ltb c n) (λ p. p.cell) more ∙ within_added n h l)) in
      omega (arith, most, length-map more (λ p. p.cell), length-append ps (pair c w ∷ []))

pub ruleset pair_laws = (words-length, words-at, words-none, stored, words_replaced, words_added)

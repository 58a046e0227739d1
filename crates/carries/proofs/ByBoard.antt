-- Carries of all boards in the order started: the eight lines that they make, with one more and with one less.
use Rattle.std.proofs.Common.{◌≡◌, ℕ, zero, suc, ◌+◌, ◌*◌, ◌<◌, ◌≤◌, Bool, true, false, ◌&&◌, eqb, ltb, ◌≢◌, List, [], ◌∷◌, ◌++◌, length, get_or, take, drop, set, Some, None, Ok, filter, Option, Result, sym, refl, ap, ◌∙◌, subst, ⊎_elim, min, arith}
use Rattle.std.specs.List.{remove, AllByRecursion, position, position_or_len}
use Rattle.std.proofs.lemmas.List.{set-get_or, length-set, ext_get_or, append-nil, get_or_past}
use Rattle.std.proofs.lemmas.List.Elements.{filter-append}
use Rattle.std.proofs.lemmas.List.Folds.{list_all-append}
use Rattle.std.proofs.lemmas.List.Quantifiers.{position-Some}
use Rattle.std.proofs.lemmas.Bool.Decides.{nat_tests}
use Rattle.std.proofs.lemmas.Grind.{common_steps}
use Rattle.std.proofs.lemmas.List.FromFn.{length-map-range_with_len, get_or-map-range_with_len}
use Rattle.std.proofs.lemmas.Bool.{cases_lt, eqb-true}
use Rattle.model.specs.declared.carry.Carry.{Carry}
use Rattle.model.specs.declared.refusal.Refusal.{Refusal}
use Rattle.carries.specs.Lines.{line, of_lane, lane, oldest, newest, newest_at, without, joined, checked, start_at, if_started, started, Landed, Proper}
use Rattle.carries.specs.Tables.{line_of, lines_of, located, Short, without_first}

pub lines-length : (xs : List Carry) → length (lines_of xs) ≡ 8
unfolding lines_of
lines-length xs = length-map-range_with_len (λ b. line_of b xs) 0 8

pub line-of : (xs : List Carry) (b : ℕ) → b < 8 → line (lines_of xs) b ≡ line_of b xs
unfolding lines_of
line-of xs b h = get_or-map-range_with_len (λ b. line_of b xs) 0 8 b b [] h (omega arith)

pub ruleset lines = (line-of)

pub line-past : (xs : List Carry) (b : ℕ) → 8 ≤ b → line (lines_of xs) b ≡ []
line-past xs b h = get_or_past (lines_of xs) b [] (omega (arith, lines-length xs))

-- what holds of no carries and of those of board b holds of the line of board b
line-is : (P : List Carry → Type 0) (xs : List Carry) (b : ℕ) → P [] → P (line_of b xs) → P (line (lines_of xs) b)
line-is P xs b none some = ⊎_elim (λ (h : b < 8). subst P (sym (line-of xs b h)) some) (λ (h : 8 ≤ b). subst P (sym (line-past xs b h)) none) (cases_lt b 8)

-- ys has another line of board b than xs, and else the same lines
module _ (xs ys : List Carry) (b : ℕ) (l : List Carry) (inside : b < 8) (here : line_of b ys ≡ l) (there : (k : ℕ) → k ≢ b → line_of k ys ≡ line_of k xs) where
  lines-set : lines_of ys ≡ set (lines_of xs) b l
  lines-set =
      ext_get_or [] (lines_of ys) (set (lines_of xs) b l)
      (lines-length ys ∙ sym (length-set (lines_of xs) b l ∙ lines-length xs))
      (λ k h. grind (arith, common_steps, line-of ys k, line-of xs k, there k, lines-length xs, lines-length ys))

pub line-cons-same : (x : Carry) (xs : List Carry) → line_of x.board (x ∷ xs) ≡ x ∷ line_of x.board xs
line-cons-same x xs = grind (arith, nat_tests)

pub line-cons-other : (x : Carry) (xs : List Carry) (k : ℕ) → k ≢ x.board → line_of k (x ∷ xs) ≡ line_of k xs
line-cons-other x xs k ne = grind (arith, nat_tests)

line-append : (k : ℕ) (xs ys : List Carry) → line_of k (xs ++ ys) ≡ line_of k xs ++ line_of k ys
line-append k xs ys = filter-append (λ x. eqb x.board k) xs ys

-- one more at the end
line-push-same : (x : Carry) (xs : List Carry) → line_of x.board (xs ++ x ∷ []) ≡ line_of x.board xs ++ x ∷ []
line-push-same x xs = grind (arith, nat_tests, line-append x.board xs (x ∷ []))

line-push-other : (x : Carry) (xs : List Carry) (k : ℕ) → k ≢ x.board → line_of k (xs ++ x ∷ []) ≡ line_of k xs
line-push-other x xs k ne = grind (arith, nat_tests, line-append k xs (x ∷ []), append-nil (line_of k xs))

pub lines-push : (xs : List Carry) (x : Carry) → x.board < 8 → lines_of (xs ++ x ∷ []) ≡ set (lines_of xs) x.board (line (lines_of xs) x.board ++ x ∷ [])
lines-push xs x h =
    lines-set xs (xs ++ x ∷ []) x.board (line (lines_of xs) x.board ++ x ∷ []) h
    (line-push-same x xs ∙ ap (λ l. l ++ x ∷ []) (sym (line-of xs x.board h)))
    (line-push-other x xs)

pub short-push : (n : ℕ) (xs : List Carry) (x : Carry) → Short n xs → length (line_of x.board xs) < n → Short n (xs ++ x ∷ [])
short-push n xs x s h b = grind (arith, nat_tests, common_steps, line-append b xs (x ∷ []), s b)

located-append : (xs ys : List Carry) → located (xs ++ ys) ≡ (located xs && located ys)
located-append xs ys = list_all-append (λ x. ltb x.board 8 && ltb x.cell 64) xs ys

pub located-push : (xs : List Carry) (x : Carry) → located xs ≡ true → x.board < 8 → x.cell < 64 → located (xs ++ x ∷ []) ≡ true
located-push xs x l b c = grind (arith, nat_tests, located-append xs (x ∷ []))

-- how many carries the boards below n have
abbrev total : ℕ → List Carry → ℕ
total zero xs = 0
total (suc n) xs = total n xs + length (line_of n xs)

total-none : (n : ℕ) → total n [] ≡ 0
total-none zero = refl
total-none (suc n) = omega (arith, total-none n)

total-past : (n : ℕ) (x : Carry) (xs : List Carry) → n ≤ x.board → total n (x ∷ xs) ≡ total n xs
total-past zero x xs h = refl
total-past (suc n) x xs h = grind (arith, nat_tests, total-past n x xs)

total-cons : (n : ℕ) (x : Carry) (xs : List Carry) → x.board < n → total n (x ∷ xs) ≡ total n xs + 1
total-cons zero x xs h = absurd (omega arith)
total-cons (suc n) x xs h = grind (arith, nat_tests, total-cons n x xs, total-past n x xs)

board-in : (x : Carry) (xs : List Carry) → located (x ∷ xs) ≡ true → x.board < 8
board-in x xs l = grind (arith, nat_tests)

length-total : (xs : List Carry) → located xs ≡ true → length xs ≡ total 8 xs
length-total [] l = sym (total-none 8)
length-total (x ∷ xs) l = grind (arith, nat_tests, length-total xs, total-cons 8 x xs)

total-most : (n : ℕ) (xs : List Carry) → Short 8 xs → total n xs ≤ n * 8
total-most zero xs s = omega arith
total-most (suc n) xs s = omega (arith, total-most n xs s, s n)

total-room : (n b : ℕ) (xs : List Carry) → Short 8 xs → b < n → length (line_of b xs) < 8 → total n xs < n * 8
total-room zero b xs s h r = omega arith
total-room (suc n) b xs s h r = grind (arith, total-most n xs s, total-room n b xs s, s n)

-- where one board has fewer than eight, all together are fewer than 64
pub room : (b : ℕ) (xs : List Carry) → located xs ≡ true → Short 8 xs → b < 8 → length (line_of b xs) < 8 → length xs < 64
room b xs l s h r = omega (arith, length-total xs l, total-room 8 b xs s h r)

-- one less: without the carry at place i
pub located-removed : (xs : List Carry) (i : ℕ) → located xs ≡ true → located (remove xs i) ≡ true
located-removed [] i l = grind (arith, common_steps)
located-removed (x ∷ xs) zero l = grind (arith, nat_tests)
located-removed (x ∷ xs) (suc i) l = grind (arith, nat_tests, located-removed xs i)

pub shorter : (b : ℕ) (xs : List Carry) (i : ℕ) → length (line_of b (remove xs i)) ≤ length (line_of b xs)
shorter b [] i = grind (arith, common_steps)
shorter b (x ∷ xs) zero = grind (arith, nat_tests)
shorter b (x ∷ xs) (suc i) = grind (arith, nat_tests, shorter b xs i)

pub short-removed : (n : ℕ) (xs : List Carry) (i : ℕ) → Short n xs → Short n (remove xs i)
short-removed n xs i s b = omega (arith, s b, shorter b xs i)

located-at : (xs : List Carry) (i : ℕ) (x : Carry) → i < length xs → x ≡ get_or xs i x → located xs ≡ true → x.board < 8
located-at [] i x within read l = absurd (omega arith)
located-at (y ∷ ys) zero x within read l = grind (arith, nat_tests)
located-at (y ∷ ys) (suc i) x within read l = located-at ys i x (omega arith) read (grind (arith, nat_tests))

-- another line than that of x, at place i, stays
line-other : (xs : List Carry) (i : ℕ) (x : Carry) → i < length xs → x ≡ get_or xs i x → (k : ℕ) → k ≢ x.board → line_of k (remove xs i) ≡ line_of k xs
line-other [] i x within read k ne = absurd (omega arith)
line-other (y ∷ ys) zero x within read k ne = grind (arith, nat_tests)
line-other (y ∷ ys) (suc i) x within read k ne = grind (arith, nat_tests, line-other ys i x)

-- x, at place i, is the first of its board: it heads its line, and the rest of the line is what is left of it
line-first : (xs : List Carry) (i : ℕ) (x : Carry) → i < length xs → x ≡ get_or xs i x → line_of x.board (take i xs) ≡ [] → line_of x.board xs ≡ x ∷ line_of x.board (remove xs i)
line-first [] i x within read first = absurd (omega arith)
line-first (y ∷ ys) zero x within read first = grind (arith, nat_tests)
line-first (y ∷ ys) (suc i) x within read first = grind (arith, nat_tests, line-first ys i x)

module _ (xs : List Carry) (i : ℕ) (x : Carry) (within : i < length xs) (read : x ≡ get_or xs i x) (first : line_of x.board (take i xs) ≡ []) where
  module _ (known : located xs ≡ true) where
    head-line : line (lines_of xs) x.board ≡ x ∷ line_of x.board (remove xs i)
    head-line = line-of xs x.board (located-at xs i x within read known) ∙ line-first xs i x within read first

    pub head-oldest : Some x ≡ oldest (line (lines_of xs) x.board)
    head-oldest = sym (ap oldest head-line)

    pub lines-removed : lines_of (remove xs i) ≡ set (lines_of xs) x.board (drop 1 (line (lines_of xs) x.board))
    lines-removed =
        lines-set xs (remove xs i) x.board (drop 1 (line (lines_of xs) x.board)) (located-at xs i x within read known)
        (sym (ap (drop 1) head-line))
        (line-other xs i x within read)

    pub landed : Landed (lines_of xs) (Some x) (lines_of (remove xs i))
    landed = (
      ap (λ l. oldest (filter (of_lane x.board x.cell) l)) head-line ∙ grind (arith, nat_tests),
      lines-removed ∙ ap (set (lines_of xs) x.board) (ap (drop 1) head-line ∙ sym (ap (without x.board x.cell) head-line ∙ grind (arith, nat_tests))),
    )

pub nothing-waits : Landed (lines_of []) None (lines_of [])
nothing-waits = (λ b. line-is (λ l. l ≡ []) [] b refl refl, refl)

-- the first of all lands, if there is one
pub landed-first : (xs : List Carry) (r : Option Carry) (ys : List Carry) → located xs ≡ true → r ≡ oldest xs → ys ≡ drop 1 xs → Landed (lines_of xs) r (lines_of ys)
landed-first [] r ys l is rest = rw (is, rest) nothing-waits
landed-first (x ∷ xs) r ys l is rest = rw (is, rest) (landed (x ∷ xs) 0 x (omega arith) refl refl l)

-- the checks of a call let a board and a cell through: then they exist, and the answer is what it is without them
pub checks : (b c : ℕ) (u : Unit {0}) → checked b c (Ok tt) ≡ Ok u → (b < 8) × (c < 64)
checks b c u e = grind (arith, nat_tests)

pub checked-on : {X : Type 0} (b c : ℕ) (r : Result X Refusal) → b < 8 → c < 64 → checked b c r ≡ r
checked-on b c r h k = grind (arith, nat_tests)

pub started-is : (n : ℕ) (ls : List (List Carry)) (x : Carry) → x.board < 8 → x.cell < 64 → length (line ls x.board) < n → started n ls x ≡ set ls x.board (joined (line ls x.board) x)
started-is n ls x h k r = let new = set ls x.board (joined (line ls x.board) x) in let ok : start_at n ls x ≡ Ok tt = grind (arith, nat_tests) in ap (λ a. if_started a new ls) ok

-- a lane of a board's line is the lane among all
lane-line : (b c : ℕ) (xs : List Carry) → filter (of_lane b c) (line_of b xs) ≡ filter (of_lane b c) xs
lane-line b c [] = refl
lane-line b c (x ∷ xs) = grind (arith, nat_tests, lane-line b c xs)

own : (b : ℕ) (xs : List Carry) → located xs ≡ true → AllByRecursion (λ x. (x.board ≡ b) × (x.cell ≤ 63)) (line_of b xs)
own b [] l = tt
own b (x ∷ xs) l = grind (arith, nat_tests, own b xs)

pub proper : (n : ℕ) (xs : List Carry) → located xs ≡ true → Short n xs → Proper n (lines_of xs)
proper n xs l s =
    record {
      eight = lines-length xs;
      own = λ b. line-is (AllByRecursion (λ x. (x.board ≡ b) × (x.cell ≤ 63))) xs b tt (own b xs l);
      short = λ b. line-is (λ l. length l ≤ n) xs b (omega arith) (s b);
    }

pub lane_of : (xs : List Carry) (b c : ℕ) → b < 8 → lane (lines_of xs) b c ≡ filter (of_lane b c) xs
lane_of xs b c h = ap (filter (of_lane b c)) (line-of xs b h) ∙ lane-line b c xs

-- the first of board b: where it stands, and what is left without it
module _ (b : ℕ) where
  abbrev of-board : Carry → Bool
  of-board x = eqb x.board b

  found : (xs : List Carry) (i : ℕ) (d : Carry) → i < length xs → of-board (get_or xs i d) ≡ true → ((k : ℕ) → k < i → of-board (get_or xs k d) ≡ false)
      → (line_of b (take i xs) ≡ []) × (remove xs i ≡ without_first b xs)
  found [] i d h is others = absurd (omega arith)
  found (x ∷ xs) zero d h is others = (refl, grind (arith, nat_tests))
  found (x ∷ xs) (suc i) d h is others =
      let here : eqb x.board b ≡ false = others 0 (omega arith) in
      grind (arith, nat_tests, here, found xs i d (omega arith) is (λ k l. others (suc k) (omega arith)))

  absent : (xs : List Carry) → length xs ≤ position_or_len of-board xs → (line_of b xs ≡ []) × (xs ≡ without_first b xs)
  absent [] h = (refl, refl)
  absent (x ∷ xs) h = grind (arith, nat_tests, absent xs)

  not_found : (xs : List Carry) → position of-board xs ≡ None → (line_of b xs ≡ []) × (xs ≡ without_first b xs)
  not_found xs e = absent xs (grind (arith, nat_tests))

  -- where there is none, nothing lands; x, which stands in the place found, does
  pub none-lands : (xs : List Carry) → position of-board xs ≡ None
      → (None ≡ oldest (line (lines_of xs) b)) × (lines_of xs ≡ set (lines_of xs) b (drop 1 (line (lines_of xs) b))) × (xs ≡ without_first b xs)
  none-lands xs e =
      let none = not_found xs e in
      let empty : line (lines_of xs) b ≡ [] = line-is (λ l. l ≡ []) xs b refl none.0 in
      (sym (ap oldest empty), sym (ap (set (lines_of xs) b) (ap (drop 1) empty ∙ sym empty) ∙ set-get_or (lines_of xs) b []), none.1)

  pub lands : (xs : List Carry) (i : ℕ) (x : Carry) → located xs ≡ true → position of-board xs ≡ Some i → x ≡ get_or xs i x
      → (Some x ≡ oldest (line (lines_of xs) b))
      × (lines_of (remove xs i) ≡ set (lines_of xs) b (drop 1 (line (lines_of xs) b)))
      × (remove xs i ≡ without_first b xs)
      × Landed (lines_of xs) (Some x) (lines_of (remove xs i))
  lands xs i x l e read =
      let at = position-Some of-board xs i x e in
      let is : x.board ≡ b = ap (λ y. y.board) read ∙ eqb-true (get_or xs i x).board b at.1 in
      let front = found xs i x at.0 at.1 at.2 in
      let first : line_of x.board (take i xs) ≡ [] = ap (λ k. line_of k (take i xs)) is ∙ front.0 in (
        head-oldest xs i x at.0 read first l ∙ ap (λ k. oldest (line (lines_of xs) k)) is,
        lines-removed xs i x at.0 read first l ∙ ap (λ k. set (lines_of xs) k (drop 1 (line (lines_of xs) k))) is,
        front.1,
        landed xs i x at.0 read first l,
      )

pub newest_in : (b c : ℕ) (xs : List Carry) → checked b c (Ok (tt {0})) ≡ Ok tt → newest_at (lines_of xs) b c ≡ Ok (newest (filter (of_lane b c) xs))
newest_in b c xs e =
    let on = checks b c tt e in
    checked-on b c (Ok (newest (lane (lines_of xs) b c))) on.0 on.1 ∙ ap (λ l. Ok (newest l)) (lane_of xs b c on.0)

-- a line that holds as many as its table's lines holds what they hold
pub least_again : (n : ℕ) → min n (min n 8) ≡ min n 8
least_again n = omega arith

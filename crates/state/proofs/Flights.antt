-- One carry started or landed: what is then in each lane, and that the lines stay proper.
use Rattle.std.proofs.Common.{◌≡◌, ℕ, ◌<◌, ◌≤◌, Bool, true, false, cond, eqb, ltb, List, [], ◌∷◌, ◌++◌, length, set, Some, Ok, Err, filter, Result, sym, refl, ap, ◌∙◌, subst, ⊎_elim, arith}
use Rattle.std.proofs.ByRecursion.{All-push, kept_by_passes}
use Rattle.std.proofs.lemmas.List.{append-nil, length_push, length-set, get_or-set_same, get_or-set_other, set_past}
use Rattle.std.proofs.lemmas.Bool.{cases_eq, cases_lt, cond-true, cond-false, cond_both, and_parts, eqb-true, ltb-false, le-ltb}
use Rattle.std.proofs.lemmas.Bool.Decides.{nat_tests}
use Rattle.std.specs.List.{AllByRecursion}
use Rattle.model.specs.declared.carry.Carry.{Carry}
use Rattle.model.specs.declared.refusal.Refusal.{Refusal}
use Rattle.carries.specs.Lines.{line, of_lane, lane, oldest, joined, start_at, if_started, started, without, Proper}
use Rattle.path.specs.Runs.{start_reply, end, then}
use Rattle.path.specs.declared.order.Order.TheVariants.{Start, Land}
use Rattle.path.specs.declared.order.Reply.TheVariants.{Started, Landed}
use Rattle.path.proofs.Lanes.{of-itself, in_order}

-- the oldest of a lane is of that lane
pub heads-own : (ls : List (List Carry)) (b c : ℕ) (x : Carry) → oldest (lane ls b c) ≡ Some x → oldest (lane ls x.board x.cell) ≡ Some x
heads-own ls b c x e =
    let is = and_parts (eqb x.board b) (eqb x.cell c) (passes (lane ls b c) (kept_by_passes (of_lane b c) (line ls b)) e) in
    subst (λ k. oldest (lane ls k x.cell) ≡ Some x) (sym (eqb-true x.board b is.0))
    (subst (λ d. oldest (lane ls b d) ≡ Some x) (sym (eqb-true x.cell c is.1)) e)
  where
    passes : (xs : List Carry) → AllByRecursion (λ y. of_lane b c y ≡ true) xs → oldest xs ≡ Some x → of_lane b c x ≡ true
    passes [] all h = cc
    passes (y ∷ ys) all h = let is : y ≡ x = cc in subst (λ z. of_lane b c z ≡ true) is all.0

-- the lanes after a carry started

module _ (n : ℕ) (ls : List (List Carry)) (x : Carry) (u : Unit {0}) (eight : length ls ≡ 8) (accepted : start_at n ls x ≡ Ok u) where
  lane-started : (b c : ℕ) → lane ls b c ++ filter (of_lane b c) (x ∷ []) ≡ lane (started n ls x) b c
  lane-started b c = in_order {os = Start x ∷ []} {rs = Started ∷ []} eight (then (sym (ap start_reply accepted), refl) end) b c

  pub lane-joined : lane (started n ls x) x.board x.cell ≡ lane ls x.board x.cell ++ x ∷ []
  lane-joined = sym (lane-started x.board x.cell) ∙ ap (λ l. lane ls x.board x.cell ++ l) (cond-true (of_lane x.board x.cell x) (x ∷ []) [] (of-itself x))

  pub lane-as-it-was : (b c : ℕ) → of_lane b c x ≡ false → lane (started n ls x) b c ≡ lane ls b c
  lane-as-it-was b c other = sym (lane-started b c) ∙ ap (λ l. lane ls b c ++ l) (cond-false (of_lane b c x) (x ∷ []) [] other) ∙ append-nil (lane ls b c)

-- the lines without a carry that is the oldest of its lane
abbrev pub unloaded : List (List Carry) → Carry → List (List Carry)
unloaded ls x = set ls x.board (without x.board x.cell (line ls x.board))

module _ (ls : List (List Carry)) (x : Carry) (eight : length ls ≡ 8) (first : oldest (lane ls x.board x.cell) ≡ Some x) where
  lane-landed : (b c : ℕ) → lane ls b c ≡ filter (of_lane b c) (x ∷ []) ++ lane (unloaded ls x) b c
  lane-landed b c = sym (append-nil (lane ls b c)) ∙ in_order {n = 0} {os = Land ∷ []} {rs = Landed x ∷ []} eight (then (first, refl) end) b c

  pub lane-left : lane ls x.board x.cell ≡ x ∷ lane (unloaded ls x) x.board x.cell
  lane-left =
      lane-landed x.board x.cell
      ∙ ap (λ l. l ++ lane (unloaded ls x) x.board x.cell) (cond-true (of_lane x.board x.cell x) (x ∷ []) [] (of-itself x))

  pub lane-untouched : (b c : ℕ) → of_lane b c x ≡ false → lane (unloaded ls x) b c ≡ lane ls b c
  lane-untouched b c other =
      sym (lane-landed b c ∙ ap (λ l. l ++ lane (unloaded ls x) b c) (cond-false (of_lane b c x) (x ∷ []) [] other))

-- lines stay proper

abbrev Own : ℕ → Carry → Type 0
Own b x = (x.board ≡ b) × (x.cell ≤ 63)

-- what holds of the line of each board, where the line of board b is another
each_line : (P : ℕ → List Carry → Type 0) (ls : List (List Carry)) (b : ℕ) (l : List Carry) → b < length ls → P b l → ((k : ℕ) → P k (line ls k)) → (k : ℕ) → P k (line (set ls b l) k)
each_line P ls b l h new old k =
    ⊎_elim
    (λ (e : k ≡ b). subst (λ j. P j (line (set ls b l) j)) (sym e) (subst (P b) (sym (get_or-set_same ls b l [] h)) new))
    (λ (ne : k ≡ b → ⊥). subst (P k) (sym (get_or-set_other ls b k l [] ne)) (old k))
    (cases_eq k b)

proper-set : (n : ℕ) (ls : List (List Carry)) (b : ℕ) (l : List Carry) → Proper n ls → AllByRecursion (Own b) l → length l ≤ n → Proper n (set ls b l)
proper-set n ls b l p own short =
    ⊎_elim
    (λ (h : b < length ls).
    record {
      eight = length-set ls b l ∙ p.eight;
      own = each_line (λ k. AllByRecursion (Own k)) ls b l h own p.own;
      short = each_line (λ k xs. length xs ≤ n) ls b l h short p.short;
    })
    (λ (h : length ls ≤ b). subst (Proper n) (sym (set_past ls b l h)) p)
    (cases_lt b (length ls))

-- what the answer to a start shows
pub record Startable (n : ℕ) (ls : List (List Carry)) (x : Carry) : Type 0 where
  pub board : x.board < 8
  pub cell : x.cell < 64
  pub room : length (line ls x.board) < n

pub startable : (n : ℕ) (ls : List (List Carry)) (x : Carry) (u : Unit {0}) → start_at n ls x ≡ Ok u → Startable n ls x
startable n ls x u e = grind (arith, nat_tests)

-- a carry of a board and a cell that exist is refused only where its line is at its full length
pub line-full : (n : ℕ) (ls : List (List Carry)) (x : Carry) (r : Refusal) → x.board < 8 → x.cell < 64 → start_at n ls x ≡ Err r → (r ≡ Refusal.LineFull) × (n ≤ length (line ls x.board))
line-full n ls x r b c e =
    by (ltb (length (line ls x.board)) n) refl
    (sym (cond-false (ltb 7 x.board) _ _ (le-ltb 7 x.board (omega arith)) ∙ cond-false (ltb 63 x.cell) _ _ (le-ltb 63 x.cell (omega arith))) ∙ e)
  where
    by : (q : Bool) → ltb (length (line ls x.board)) n ≡ q → ◌≡◌ {A = Result (Unit {0}) Refusal} (cond q (Ok tt) (Err Refusal.LineFull)) (Err r) → (r ≡ Refusal.LineFull) × (n ≤ length (line ls x.board))
    by true full h = (cc, absurd (let z : ◌≡◌ {A = ℕ} 0 1 = cc in omega arith))
    by false full h = (cc, ltb-false (length (line ls x.board)) n full)

pub proper-started : (n : ℕ) (ls : List (List Carry)) (x : Carry) (u : Unit {0}) → start_at n ls x ≡ Ok u → Proper n ls → Proper n (started n ls x)
proper-started n ls x u e p =
    let k = startable n ls x u e in
    let b = x.board in
    subst (Proper n) (sym (ap (λ r. if_started r (set ls b (joined (line ls b) x)) ls) e))
    (proper-set n ls b (joined (line ls b) x) p
    (All-push (Own b) (line ls b) x (p.own b) (refl, omega (arith, k.cell)))
    (omega (arith, length_push (line ls b) x, k.room)))

all_without : (P : Carry → Type 0) (b c : ℕ) (xs : List Carry) → AllByRecursion P xs → AllByRecursion P (without b c xs)
all_without P b c [] all = tt
all_without P b c (x ∷ xs) all = cond_both (of_lane b c x) xs (x ∷ without b c xs) (AllByRecursion P) (λ _. all.1) (λ _. (all.0, all_without P b c xs all.1))

length_without : (b c : ℕ) (xs : List Carry) → length (without b c xs) ≤ length xs
length_without b c [] = omega arith
length_without b c (x ∷ xs) = cond_both (of_lane b c x) xs (x ∷ without b c xs) (λ l. length l ≤ length (x ∷ xs)) (λ _. omega arith) (λ _. omega (arith, length_without b c xs))

pub proper-unloaded : (n : ℕ) (ls : List (List Carry)) (x : Carry) → Proper n ls → Proper n (unloaded ls x)
proper-unloaded n ls x p =
    let b = x.board in
    proper-set n ls b (without b x.cell (line ls b)) p
    (all_without (Own b) b x.cell (line ls b) (p.own b))
    (omega (arith, length_without b x.cell (line ls b), p.short b))

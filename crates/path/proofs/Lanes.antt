-- In each lane a run lands the carries in the order in which they were started.
use Rattle.std.proofs.Common.{◌≡◌, ℕ, ◌+◌, ◌<◌, ◌≤◌, true, false, ◌≢◌, List, [], ◌∷◌, ◌++◌, length, get_or, take, set, Some, Ok, Err, filter, Result, sym, refl, ap, ◌∙◌, subst, ⊎_elim, arith}
use Rattle.std.proofs.lemmas.List.Elements.{filter-append}
use Rattle.std.proofs.lemmas.List.{take_more, take_more_set, length-set, get_or-set_same, get_or-set_other, get_or_past, append-nil, append_assoc}
use Rattle.std.proofs.lemmas.Bool.Decides.{nat_tests}
use Rattle.std.proofs.lemmas.Grind.{common_steps}
use Rattle.std.proofs.lemmas.Bool.{cases_eq, cases_lt, cond-true, cond-false}
use Rattle.model.specs.declared.carry.Carry.{Carry}
use Rattle.model.specs.declared.refusal.Refusal.{Refusal}
use Rattle.carries.specs.Lines.{line, of_lane, lane, oldest, joined, start_at, if_started, without}
use Rattle.carries.specs.Lines as lines
use Rattle.path.specs.Runs.{start_reply, LandReply, Takes, Run, end, then, accepted_by, accepted, landed_by, landed, InOrder}
use Rattle.path.specs.declared.order.Order.{Order}
use Rattle.path.specs.declared.order.Order.TheVariants.{Start, Land}
use Rattle.path.specs.declared.order.Reply.{Reply}
use Rattle.path.specs.declared.order.Reply.TheVariants.{Started, Refused, Landed, NothingWaits}

-- a carry is of its own lane
pub of-itself : (x : Carry) → of_lane x.board x.cell x ≡ true
of-itself x = grind (arith, nat_tests)

-- a carry of another board or of another cell is not
pub other-board : (b c : ℕ) (x : Carry) → b ≢ x.board → of_lane b c x ≡ false
other-board b c x ne = grind (arith, nat_tests)

pub other-cell : (b c : ℕ) (x : Carry) → c ≢ x.cell → of_lane b c x ≡ false
other-cell b c x ne = grind (arith, nat_tests)

kept-none : (b c : ℕ) (x : Carry) → of_lane b c x ≡ false → filter (of_lane b c) (x ∷ []) ≡ []
kept-none b c x e = cond-false (of_lane b c x) (x ∷ []) [] e

-- the lanes where the line of board k has become l
module _ (ls : List (List Carry)) (k : ℕ) (l : List Carry) where
  lane-set-same : (c : ℕ) → k < length ls → lane (set ls k l) k c ≡ filter (of_lane k c) l
  lane-set-same c h = ap (filter (of_lane k c)) (get_or-set_same ls k l [] h)

  lane-set-other : (b c : ℕ) → b ≢ k → lane (set ls k l) b c ≡ lane ls b c
  lane-set-other b c ne = ap (filter (of_lane b c)) (get_or-set_other ls k b l [] ne)

-- one more in its line
lane-joined : (ls : List (List Carry)) (x : Carry) (b c : ℕ) → x.board < length ls → lane (set ls x.board (joined (line ls x.board) x)) b c ≡ lane ls b c ++ filter (of_lane b c) (x ∷ [])
lane-joined ls x b c h = grind (
  arith,
  common_steps,
  other-board b c x,
  filter-append (of_lane b c) (line ls x.board) (x ∷ []),
)

-- one less in its line
without-same : (b c : ℕ) (xs : List Carry) (x : Carry) → oldest (filter (of_lane b c) xs) ≡ Some x → filter (of_lane b c) xs ≡ x ∷ filter (of_lane b c) (without b c xs)
without-same b c [] x e = cc
without-same b c (y ∷ ys) x e = grind (arith, nat_tests, without-same b c ys x)

without_other : (b c d : ℕ) (xs : List Carry) → c ≢ d → filter (of_lane b c) (without b d xs) ≡ filter (of_lane b c) xs
without_other b c d [] ne = refl
without_other b c d (y ∷ ys) ne = grind (arith, nat_tests, without_other b c d ys)

inside : (ls : List (List Carry)) (x : Carry) → oldest (lane ls x.board x.cell) ≡ Some x → x.board < length ls
inside ls x e =
    ⊎_elim
    (λ (h : x.board < length ls). h)
    (λ (h : length ls ≤ x.board).
    let none = ap (λ l. oldest (filter (of_lane x.board x.cell) l)) (get_or_past ls x.board [] h) in
    let z : ◌≡◌ {A = ℕ} 0 1 = cc in
    absurd (omega arith))
    (cases_lt x.board (length ls))

module _ (ls ls' : List (List Carry)) (x : Carry) (l : lines.Landed ls (Some x) ls') where
  abbrev less : List Carry
  less = without x.board x.cell (line ls x.board)

  own_lane : lane ls x.board x.cell ≡ filter (of_lane x.board x.cell) (x ∷ []) ++ lane ls' x.board x.cell
  own_lane =
      let k = x.board in
      let d = x.cell in
      without-same k d (line ls k) x l.0
      ∙ ap (λ m. x ∷ m) (sym (ap (λ s. lane s k d) l.1 ∙ lane-set-same ls k less d (inside ls x l.0)))
      ∙ ap (λ m. m ++ lane ls' k d) (sym (cond-true (of_lane k d x) (x ∷ []) [] (of-itself x)))

  same_line : (c : ℕ) → c ≢ x.cell → lane ls x.board c ≡ filter (of_lane x.board c) (x ∷ []) ++ lane ls' x.board c
  same_line c ne =
      let k = x.board in
      sym (ap (λ m. m ++ lane ls' k c) (kept-none k c x (other-cell k c x ne))
      ∙ ap (λ s. lane s k c) l.1
      ∙ lane-set-same ls k less c (inside ls x l.0)
      ∙ without_other k c x.cell (line ls k) ne)

  other-line : (b c : ℕ) → b ≢ x.board → lane ls b c ≡ filter (of_lane b c) (x ∷ []) ++ lane ls' b c
  other-line b c ne =
      sym (ap (λ m. m ++ lane ls' b c) (kept-none b c x (other-board b c x ne)) ∙ ap (λ s. lane s b c) l.1 ∙ lane-set-other ls x.board less b c ne)

  lane-landed : (b c : ℕ) → lane ls b c ≡ filter (of_lane b c) (x ∷ []) ++ lane ls' b c
  lane-landed b c =
      ⊎_elim
      (λ (e : b ≡ x.board).
      subst (λ b. lane ls b c ≡ filter (of_lane b c) (x ∷ []) ++ lane ls' b c) (sym e)
      (⊎_elim
      (λ (f : c ≡ x.cell). subst (λ c. lane ls x.board c ≡ filter (of_lane x.board c) (x ∷ []) ++ lane ls' x.board c) (sym f) own_lane)
      (λ (ne : c ≡ x.cell → ⊥). same_line c ne)
      (cases_eq c x.cell)))
      (λ (ne : b ≡ x.board → ⊥). other-line b c ne)
      (cases_eq b x.board)

on-board : (n : ℕ) (ls : List (List Carry)) (x : Carry) (u : Unit {0}) → start_at n ls x ≡ Ok u → x.board < 8
on-board n ls x u e = grind (arith, nat_tests)

-- one order: what waited and what it started is what it landed and what waits then
module _ (n : ℕ) (ls : List (List Carry)) (eight : length ls ≡ 8) (b c : ℕ) where
  started-in-order : (x : Carry) (s : Result (Unit {0}) Refusal) → start_at n ls x ≡ s
      → lane ls b c ++ filter (of_lane b c) (accepted_by (Start x) (start_reply s)) ≡ filter (of_lane b c) (landed_by (start_reply s)) ++ lane (if_started s (set ls x.board (joined (line ls x.board) x)) ls) b c
  started-in-order x (Ok u) e = sym (lane-joined ls x b c (omega (arith, on-board n ls x u e)))
  started-in-order x (Err f) e = append-nil (lane ls b c)

  landed-in-order : (r : Reply) (ls' : List (List Carry)) → LandReply ls r ls' → lane ls b c ++ [] ≡ filter (of_lane b c) (landed_by r) ++ lane ls' b c
  landed-in-order (Landed x) ls' l = append-nil (lane ls b c) ∙ lane-landed ls ls' x l b c
  landed-in-order NothingWaits ls' l = append-nil (lane ls b c) ∙ ap (λ s. lane s b c) (sym l.1)
  landed-in-order Started ls' l = absurd l
  landed-in-order (Refused e) ls' l = absurd l

  one-in-order : (o : Order) (r : Reply) (ls' : List (List Carry)) → Takes n ls o r ls' → lane ls b c ++ filter (of_lane b c) (accepted_by o r) ≡ filter (of_lane b c) (landed_by r) ++ lane ls' b c
  one-in-order (Start x) r ls' t =
      subst (λ r. lane ls b c ++ filter (of_lane b c) (accepted_by (Start x) r) ≡ filter (of_lane b c) (landed_by r) ++ lane ls' b c) (sym t.0)
      (subst (λ s. lane ls b c ++ filter (of_lane b c) (accepted_by (Start x) (start_reply (start_at n ls x))) ≡ filter (of_lane b c) (landed_by (start_reply (start_at n ls x))) ++ lane s b c) (sym t.1)
      (started-in-order x (start_at n ls x) refl))
  one-in-order Land r ls' t = landed-in-order r ls' t

if-started-length : (s : Result (Unit {0}) Refusal) (new old : List (List Carry)) → length new ≡ length old → length (if_started s new old) ≡ length old
if-started-length (Ok _) new old e = e
if-started-length (Err _) new old e = refl

still-eight : (n : ℕ) (ls : List (List Carry)) (o : Order) (r : Reply) (ls' : List (List Carry)) → Takes n ls o r ls' → length ls' ≡ length ls
still-eight n ls (Start x) r ls' t =
    let new = set ls x.board (joined (line ls x.board) x) in
    ap length t.1 ∙ if-started-length (start_at n ls x) new ls (length-set ls x.board (joined (line ls x.board) x))
still-eight n ls Land (Landed x) ls' t = ap length t.1 ∙ length-set ls x.board (without x.board x.cell (line ls x.board))
still-eight n ls Land NothingWaits ls' t = ap length t.1
still-eight n ls Land Started ls' t = absurd t
still-eight n ls Land (Refused e) ls' t = absurd t

pub in_order : {n : ℕ} {ls : List (List Carry)} {os : List Order} {rs : List Reply} {ls' : List (List Carry)} → length ls ≡ 8 → Run n ls os rs ls' → InOrder ls os rs ls'
in_order {ls = ls} eight end b c = append-nil (lane ls b c)
in_order {n = n} {ls = ls} {ls' = ls'} eight (then {ls₁ = ls₁} {o = o} {os = os} {r = r} {rs = rs} takes run) b c =
    let p = of_lane b c in
    let first = filter p (accepted_by o r) in
    let first' = filter p (landed_by r) in
    let more = filter p (accepted os rs) in
    let more' = filter p (landed rs) in
    ap (λ l. lane ls b c ++ l) (filter-append p (accepted_by o r) (accepted os rs))
    ∙ sym (append_assoc (lane ls b c) first more)
    ∙ ap (λ l. l ++ more) (one-in-order n ls eight b c o r ls₁ takes)
    ∙ append_assoc first' (lane ls₁ b c) more
    ∙ ap (λ l. first' ++ l) (in_order (still-eight n ls o r ls₁ takes ∙ eight) run b c)
    ∙ sym (append_assoc first' more' (lane ls' b c))
    ∙ ap (λ l. l ++ lane ls' b c) (sym (filter-append p (landed_by r) (landed rs)))

-- one order more at the end of a run
run-push : {n : ℕ} {ls ls₁ ls' : List (List Carry)} {os : List Order} {rs : List Reply} (o : Order) (r : Reply) → Run n ls os rs ls₁ → Takes n ls₁ o r ls' → Run n ls (os ++ o ∷ []) (rs ++ r ∷ []) ls'
run-push o r end takes = then takes end
run-push o r (then first run) takes = then first (run-push o r run takes)

pub run_more : (n : ℕ) (ls ls₁ ls' : List (List Carry)) (os : List Order) (rs : List Reply) (i : ℕ) (d : Order) (r : Reply) → i < length os → i < length rs
    → Run n ls (take i os) (take i rs) ls₁ → Takes n ls₁ (get_or os i d) r ls' → Run n ls (take (i + 1) os) (take (i + 1) (set rs i r)) ls'
run_more n ls ls₁ ls' os rs i d r h k run takes =
    subst (λ l. Run n ls l (take (i + 1) (set rs i r)) ls') (sym (take_more os i d h))
    (subst (λ l. Run n ls (take i os ++ get_or os i d ∷ []) l ls') (sym (take_more_set rs i r k)) (run-push (get_or os i d) r run takes))

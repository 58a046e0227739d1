-- A carry at the head of its line comes nearer with every landing.
use Rattle.std.proofs.Common.{◌≡◌, ℕ, zero, suc, ◌<◌, ◌≤◌, true, List, [], ◌∷◌, ◌++◌, length, get_or, take, drop, set, Some, None, Ok, Err, Option, Result, sym, refl, ap, ◌∙◌, subst, ⊎_elim, arith}
use Rattle.std.specs.Option.{option_to_list}
use Rattle.std.specs.List.{AllByRecursion}
use Rattle.std.proofs.ByRecursion.{All-push, All-weaker, All-drop}
use Rattle.std.proofs.lemmas.List.{length-set, get_or-set_same, get_or-set_other, get_or_past}
use Rattle.std.proofs.lemmas.Grind.{common_steps}
use Rattle.std.proofs.lemmas.Bool.{cases_eq, cases_lt, both_ways, false≢true}
use Rattle.model.specs.declared.carry.Carry.{Carry}
use Rattle.model.specs.declared.refusal.Refusal.{Refusal}
use Rattle.carries.specs.Lines.{line, oldest, joined, start_at, if_started, started}
use Rattle.carries.specs.Tables.{line_of}
use Rattle.path.specs.declared.order.Order.{Order}
use Rattle.path.specs.declared.order.Order.TheVariants.{Start, Land}
use Rattle.carries.proofs.ByBoard.{line-cons-same, line-cons-other}
use Rattle.rota.specs.Bound.{landings, LandsWithin}
use Rattle.rota.specs.Turns.{fixed_turns, EveryBoard, waits, can_land, turn_to_land, turn_after, landing_at}
use Rattle.rota.proofs.Fixed.{every_fixed}
use Rattle.rota.proofs.Rounds.{passed, passed-most, passed-same, after_turn, FirstRound, first_round, turn-of}

-- eight lines, each with carries of its own board only
record Own (ls : List (List Carry)) : Type 0 where
  eight : length ls ≡ 8
  own : (b : ℕ) → AllByRecursion (λ x. x.board ≡ b) (line ls b)

-- the line of board k has become l
own-set : (ls : List (List Carry)) (k : ℕ) (l : List Carry) → Own ls → AllByRecursion (λ x. x.board ≡ k) l → Own (set ls k l)
own-set ls k l o all =
    record {
      eight = length-set ls k l ∙ o.eight;
      own = λ b. grind (arith, common_steps, o.own b, get_or_past (set ls k l) b [], length-set ls k l);
    }

own-started : (ls : List (List Carry)) (x : Carry) (s : Result (Unit {0}) Refusal) → Own ls → Own (if_started s (set ls x.board (joined (line ls x.board) x)) ls)
own-started ls x (Ok u) o = own-set ls x.board (joined (line ls x.board) x) o (All-push (λ y. y.board ≡ x.board) (line ls x.board) x (o.own x.board) refl)
own-started ls x (Err e) o = o

-- a start leaves the head of every line that has one
head-started : (ls : List (List Carry)) (x : Carry) (s : Result (Unit {0}) Refusal) (b : ℕ) (h : Carry) (l : List Carry) → line ls b ≡ h ∷ l
    → (m : List Carry) × (line (if_started s (set ls x.board (joined (line ls x.board) x)) ls) b ≡ h ∷ m)
head-started ls x (Err e) b h l is = (l, is)
head-started ls x (Ok u) b h l is =
    let k = x.board in
    let new = joined (line ls k) x in
    ⊎_elim
    (λ (e : b ≡ k).
    ⊎_elim
    (λ (i : k < length ls).
    (l ++ x ∷ [], ap (line (set ls k new)) e ∙ get_or-set_same ls k new [] i ∙ ap (λ m. m ++ x ∷ []) (ap (line ls) (sym e) ∙ is)))
    (λ (i : length ls ≤ k). grind (arith, get_or_past ls b []))
    (cases_lt k (length ls)))
    (λ (ne : b ≡ k → ⊥). (l, get_or-set_other ls k b new [] ne ∙ is))
    (cases_eq b k)

head_of : (l : List Carry) → waits l ≡ true → (y : Carry) × (m : List Carry) × (l ≡ y ∷ m)
head_of [] e = absurd (false≢true e)
head_of (y ∷ m) e = (y, m, refl)

-- x heads the line of board b, which has turn j
module _ (ts : List ℕ) (n b : ℕ) (x : Carry) (j : ℕ) (j-in : j < length ts) (turn : get_or ts j 0 ≡ b) where
  -- where fewer than k turns are passed over until turn j, x is among the next k that land
  abbrev Reaches : List Order → Type 0
  Reaches os =
      (ls : List (List Carry)) (t k : ℕ) (xs : List Carry)
      → Own ls
      → t < length ts
      → line ls b ≡ x ∷ xs
      → passed (length ts) t j < k
      → k ≤ length (landings ts n ls t os)
      → oldest (line_of b (take k (landings ts n ls t os))) ≡ Some x

  module _ (os : List Order) (later : Reaches os) (ls : List (List Carry)) (t : ℕ) (xs : List Carry) (o : Own ls) (t-in : t < length ts) (is : line ls b ≡ x ∷ xs) where
    can : can_land ts ls j ≡ true
    can = ap (λ c. waits (line ls c)) turn ∙ ap waits is

    -- turn i lands y
    module _ (i : ℕ) (i-in : i < length ts) (first : passed (length ts) t i ≤ passed (length ts) t j) (y : Carry) (ys : List Carry) (heads : line ls (get_or ts i 0) ≡ y ∷ ys) where
      y-board : y.board ≡ get_or ts i 0
      y-board = (subst (AllByRecursion (λ z. z.board ≡ get_or ts i 0)) heads (o.own (get_or ts i 0))).0

      abbrev rest : List Carry
      rest = landings ts n (set ls (get_or ts i 0) (drop 1 (line ls (get_or ts i 0)))) (turn_after ts i) os

      lands : (k : ℕ) → passed (length ts) t j < k → k ≤ length (y ∷ rest) → oldest (line_of b (take k (y ∷ rest))) ≡ Some x
      lands zero near enough = absurd (omega arith)
      lands (suc k) near enough =
          let c = get_or ts i 0 in
          ⊎_elim
          (λ (e : c ≡ b).
          let same : y ≡ x = (let both : y ∷ ys ≡ x ∷ xs = sym heads ∙ ap (line ls) e ∙ is in cc) in
          subst (λ d. oldest (line_of d (y ∷ take k rest)) ≡ Some x) (y-board ∙ e) (ap oldest (line-cons-same y (take k rest)) ∙ ap Some same))
          (λ (ne : c ≡ b → ⊥).
          let apart : i ≡ j → ⊥ = λ e. ne (ap (λ m. get_or ts m 0) e ∙ turn) in
          let less : passed (length ts) t i < passed (length ts) t j =
          ⊎_elim
          (λ (e : passed (length ts) t i ≡ passed (length ts) t j). absurd (apart (passed-same (length ts) t i j t-in i-in j-in e)))
          (λ (d : passed (length ts) t i ≡ passed (length ts) t j → ⊥). omega arith)
          (cases_eq (passed (length ts) t i) (passed (length ts) t j)) in
          let next = after_turn ts t i j t-in i-in j-in less in
          let shorter = drop 1 (line ls c) in
          ap oldest (line-cons-other y (take k rest) b (λ e. ne (sym y-board ∙ sym e)))
          ∙ later (set ls c shorter) (turn_after ts i) k xs (own-set ls c shorter o (All-drop (λ z. z.board ≡ c) 1 (line ls c) (o.own c))) next.0
          (get_or-set_other ls c b shorter [] (λ e. ne (sym e)) ∙ is)
          (omega (arith, next.1)) (omega arith))
          (cases_eq c b)

    landing-reaches : (k : ℕ) (r : Option ℕ) → FirstRound (can_land ts ls) (length ts) t r → passed (length ts) t j < k
        → k ≤ length (option_to_list (landing_at ts ls t r).carry ++ landings ts n (landing_at ts ls t r).lines (landing_at ts ls t r).turn os)
        → oldest (line_of b (take k (option_to_list (landing_at ts ls t r).carry ++ landings ts n (landing_at ts ls t r).lines (landing_at ts ls t r).turn os))) ≡ Some x
    landing-reaches k None none near enough = absurd (both_ways (can_land ts ls j) (none j j-in) can)
    landing-reaches k (Some i) found near enough =
        let head = head_of (line ls (get_or ts i 0)) found.1 in
        let y = head.0 in
        let all = rest i found.0 (found.2 j j-in can) y head.1 head.2 in
        let begins : option_to_list (oldest (line ls (get_or ts i 0))) ++ all ≡ y ∷ all = ap (λ l. option_to_list (oldest l) ++ all) head.2 in
        ap (λ l. oldest (line_of b (take k l))) begins
        ∙ lands i found.0 (found.2 j j-in can) y head.1 head.2 k near (subst (λ l. k ≤ length l) begins enough)

  reaches : (os : List Order) → Reaches os
  reaches [] ls t k xs o t-in is near enough = absurd (omega arith)
  reaches (Start y ∷ os) ls t k xs o t-in is near enough =
      let head = head-started ls y (start_at n ls y) b x xs is in
      reaches os (started n ls y) t k head.0 (own-started ls y (start_at n ls y) o) t-in head.1 near enough
  reaches (Land ∷ os) ls t k xs o t-in is near enough =
      landing-reaches os (reaches os) ls t xs o t-in is k (turn_to_land ts ls t) (first_round (can_land ts ls) (length ts) t t-in) near enough

pub lands_within : (ts : List ℕ) (n : ℕ) → EveryBoard ts → LandsWithin (length ts) ts n
lands_within ts n every ls t b x xs os proper t-in is enough =
    let own : Own ls = record { eight = proper.eight; own = λ c. All-weaker (λ y. (y.board ≡ c) × (y.cell ≤ 63)) (λ y. y.board ≡ c) (λ y h. h.0) (line ls c) (proper.own c) } in
    let below : b < 8 =
    ⊎_elim
    (λ (h : b < 8). h)
    (λ (h : 8 ≤ b).
    let none = sym (get_or_past ls b [] (omega (arith, proper.eight))) ∙ is in
    let z : ◌≡◌ {A = ℕ} 0 1 = cc in
    absurd (omega arith))
    (cases_lt b 8) in
    let at = turn-of b ts (every b below) in
    reaches ts n b x at.0 at.1 at.2 os ls t (length ts) xs own t-in is (passed-most (length ts) t at.0 t-in at.1) enough

pub fixed_within : LandsWithin 16 fixed_turns 4
fixed_within = lands_within fixed_turns 4 every_fixed

-- What a board knows of a cell's writes is settled by its latest event there.
use Rattle.std.proofs.Common.{◌≡◌, ℕ, zero, suc, ◌+◌, ◌<◌, Bool, true, false, cond, eqb, ltb, ◌⊎◌, List, [], ◌∷◌, ◌++◌, length, get_or, take, drop, replicate, Some, None, Option, sym, refl, ap, ◌∙◌, inl, inr, add-one, arith}
use Rattle.std.proofs.lemmas.List.{get_or-set_other, take-append-drop}
use Rattle.std.proofs.lemmas.Bool.{cases_Bool, cond-true, cond-false, and_parts, and_from, eq-eqb}
use Rattle.model.specs.declared.event.Action.{Action}
use Rattle.model.specs.declared.event.Event.{Event}
use Rattle.model.specs.Search.{is_of, one_on, last_place}
use Rattle.order.specs.declared.view.Views.{Views}
use Rattle.order.specs.Test.{blank, initially, view_of, viewing, passing, views_from, views, on_boards}
use Rattle.judge.specs.Settling.{Settled}
use Rattle.order.proofs.History.{nothing-not-some, some_same}

-- ── the last place ──

module _ {X : Type 0} (p : X → Bool) where
  pub last_within : (xs : List X) (i : ℕ) → last_place p xs ≡ Some i → i < length xs
  last_within [] i e = absurd (nothing-not-some e)
  last_within (x ∷ xs) i e = go (last_place p xs) refl (last_within xs) e
    where
      here : (b : Bool) → cond b (Some 0) None ≡ Some i → i < suc (length xs)
      here true q = let z = some_same q in omega arith
      here false q = absurd (nothing-not-some q)

      go : (o : Option ℕ) → last_place p xs ≡ o → ((j : ℕ) → last_place p xs ≡ Some j → j < length xs) → one_on o (cond (p x) (Some 0) None) ≡ Some i → i < suc (length xs)
      go (Some j) q r f = let l = r j q in let z = some_same f in omega arith
      go None q r f = here (p x) f

  pub last_rest : (xs : List X) (i : ℕ) → last_place p xs ≡ Some i → last_place p (drop (suc i) xs) ≡ None
  last_rest [] i e = absurd (nothing-not-some e)
  last_rest (x ∷ xs) i e = go (last_place p xs) refl (last_rest xs) e
    where
      here : (b : Bool) → cond b (Some 0) None ≡ Some i → last_place p xs ≡ None → last_place p (drop i xs) ≡ None
      here true q n = ap (λ j. last_place p (drop j xs)) (sym (some_same q)) ∙ n
      here false q n = absurd (nothing-not-some q)

      go : (o : Option ℕ) → last_place p xs ≡ o → ((j : ℕ) → last_place p xs ≡ Some j → last_place p (drop (suc j) xs) ≡ None) → one_on o (cond (p x) (Some 0) None) ≡ Some i → last_place p (drop i xs) ≡ None
      go (Some j) q r f = ap (λ k. last_place p (drop k xs)) (sym (some_same f)) ∙ r j q
      go None q r f = here (p x) f q

  -- no place: neither the first element nor any other passes
  pub last_none : (x : X) (xs : List X) → last_place p (x ∷ xs) ≡ None → (p x ≡ false) × (last_place p xs ≡ None)
  last_none x xs e = go (last_place p xs) e
    where
      here : (b : Bool) → cond {A = Option ℕ} b (Some 0) None ≡ None → b ≡ false
      here true q = absurd (nothing-not-some (sym q))
      here false q = refl

      go : (o : Option ℕ) → one_on o (cond (p x) (Some 0) None) ≡ None → (p x ≡ false) × (o ≡ None)
      go (Some j) q = absurd (nothing-not-some (sym q))
      go None q = (here (p x) q, refl)

-- ── events that are not the board's ──

abbrev pub of_board : (b c : ℕ) → Event → Bool
of_board b c = is_of (λ (e : Event). e.board) (λ (e : Event). e.cell) b c

still : (c n b : ℕ) (e : Event) (t : Views) → of_board b c e ≡ false → view_of (passing c n e t) b ≡ view_of t b
still c n b e t other = go (cases_Bool (eqb e.cell c))
  where
    far : eqb e.cell c ≡ true → b ≡ e.board → ⊥
    far i p = nothing-not-some (ap (λ (x : Bool). cond x None (Some 0)) (sym (and_from (eqb e.board b) (eqb e.cell c) (eq-eqb e.board b (sym p)) i) ∙ other))

    by : (a : Action) → (b ≡ e.board → ⊥) → view_of (viewing n e.board a t) b ≡ view_of t b
    by (Action.Write w) apart = get_or-set_other t.boards e.board b _ blank apart
    by Action.Acquire apart = get_or-set_other t.boards e.board b _ blank apart
    by Action.Release apart = refl

    go : (eqb e.cell c ≡ true) ⊎ (eqb e.cell c ≡ false) → view_of (passing c n e t) b ≡ view_of t b
    go (inl i) = ap (λ (s : Views). view_of s b) (cond-true (eqb e.cell c) (viewing n e.board e.action t) t i) ∙ by e.action (far i)
    go (inr i) = ap (λ (s : Views). view_of s b) (cond-false (eqb e.cell c) (viewing n e.board e.action t) t i)

pub quiet : (c n b : ℕ) (h : List Event) (t : Views) → last_place (of_board b c) h ≡ None → view_of (views_from c n h t) b ≡ view_of t b
quiet c n b [] t none = refl
quiet c n b (e ∷ h) t none =
    let r = last_none (of_board b c) e h none in
    quiet c (suc n) b h (passing c n e t) r.1 ∙ still c n b e t r.0

views-split : (c n : ℕ) (h later : List Event) (t : Views) → views_from c n (h ++ later) t ≡ views_from c (n + length h) later (views_from c n h t)
views-split c n [] later t = ap (λ k. views_from c k later t) (omega arith)
views-split c n (e ∷ h) later t =
    let s = passing c n e t in
    views-split c (suc n) h later s ∙ ap (λ k. views_from c k later (views_from c (suc n) h s)) (omega arith)

-- ── the board's latest event ──

pub settled-by : (c b : ℕ) (h : List Event) (i : ℕ) → last_place (of_board b c) h ≡ Some i → view_of (views c h) b ≡ view_of (views c (take (suc i) h)) b
settled-by c b h i last =
    let old = take (suc i) h in
    let new = drop (suc i) h in
    ap (λ (z : List Event). view_of (views c z) b) (sym (take-append-drop (suc i) h))
    ∙ ap (λ (t : Views). view_of t b) (views-split c 1 old new initially)
    ∙ quiet c (1 + length old) b new (views c old) (last_rest (of_board b c) h i last)

pub unsettled : (c b : ℕ) (h : List Event) → last_place (of_board b c) h ≡ None → view_of (views c h) b ≡ blank
unsettled c b h none = quiet c 1 b h initially none ∙ alike 8 b
  where
    alike : (n p : ℕ) → get_or (replicate n blank) p blank ≡ blank
    alike zero p = refl
    alike (suc n) zero = refl
    alike (suc n) (suc p) = alike n p

-- ── boards ──

pub boards_take : (n : ℕ) (h : List Event) → on_boards h ≡ true → on_boards (take n h) ≡ true
boards_take zero h f = refl
boards_take (suc n) [] f = refl
boards_take (suc n) (e ∷ h) f =
    let r = and_parts (ltb e.board 8) (on_boards h) f in
    and_from (ltb e.board 8) (on_boards (take n h)) r.0 (boards_take n h r.1)

-- the board's latest event on the cell settles what the board knows, and if there is none it knows nothing
pub settled : (c b : ℕ) (h : List Event) (o : Option ℕ) → o ≡ last_place (of_board b c) h → Settled h b c o
settled c b h None e = unsettled c b h (sym e)
settled c b h (Some i) e =
    record {
      within = last_within (of_board b c) h i (sym e);
      same = settled-by c b h i (sym e) ∙ ap (λ k. view_of (views c (take k h)) b) (sym (add-one i));
    }

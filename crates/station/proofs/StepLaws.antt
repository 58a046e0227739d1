-- What the judge's answer at one step says of it, and the steps in turn.
use Rattle.std.proofs.Common.{◌≡◌, ℕ, ◌+◌, ◌<◌, ◌≤◌, Bool, true, false, cond, ltb, List, [], ◌∷◌, ◌++◌, length, get_or, is_ok, Some, None, Ok, Err, Option, Result, sym, refl, ap, ◌∙◌, subst, arith}
use Rattle.std.proofs.lemmas.List.{append-nil, length-append}
use Rattle.std.proofs.lemmas.Bool.Decides.{nat_tests}
use Rattle.std.proofs.lemmas.Bool.{ltb-true, lt-ltb, cond-true}
use Rattle.model.specs.declared.event.Event.{Event}
use Rattle.model.specs.declared.refusal.Refusal.{Refusal}
use Rattle.model.specs.declared.refusal.Refusal.TheVariants.{NoSuchBoard, NoSuchCell, SizeOutOfRange, EventsFull}
use Rattle.order.specs.Order.{more, next, Legal}
use Rattle.order.specs.Test.{on_boards, owner_of, legal}
use Rattle.order.proofs.Legals.{legal-found, legal_none}
use Rattle.order.proofs.Tests.{boards-more}
use Rattle.judge.specs.Judging.{after, ranged, standing, allowed, admitted, note_answer, extended, legal_answer}
use Rattle.text.specs.declared.header.Header.{Header}
use Rattle.text.specs.declared.placed_step.PlacedStep.{PlacedStep}
use Rattle.text.specs.Printing.{InRange}
use Rattle.station.specs.declared.task.Task.{Task}
use Rattle.station.specs.declared.task.Task.TheVariants.{Note, Check, Skip}
use Rattle.station.specs.declared.verdict.Verdict.{Verdict}
use Rattle.station.specs.declared.verdict.Verdict.TheVariants.{AllLegal}
use Rattle.station.specs.Tasks.{task_of}
use Rattle.station.specs.Verdicts.{accepted, found, task_answer, history_after, ended, resumed, judged_to}
use Rattle.station.specs.Laws.{event_in, OnBench}

-- a step that the memory model lets stand after the events h
abbrev pub Fine : Header → List Event → Task → Type 0
Fine H h (Note e) = OnBench H (Note e) × (allowed (owner_of h e.cell) e.board e.action ≡ Ok tt)
Fine H h (Check b c w) = OnBench H (Check b c w) × Legal h H.start c b w
Fine H h Skip = Unit {0}

pub data Runs (H : Header) : List Event → List PlacedStep → Type 0 where
  done : {h : List Event} → Runs H h []
  step : {h : List Event} {p : PlacedStep} {ps : List PlacedStep} → Fine H h (task_of p.step) → Runs H (h ++ event_in (task_of p.step)) ps → Runs H h (p ∷ ps)

-- ── checks in turn ──

pub after-there : {T : Type 0} (r : Result (Unit {0}) Refusal) (s : Result T Refusal) (x : T) → after r s ≡ Ok x → (r ≡ Ok tt) × (s ≡ Ok x)
after-there (Ok u) s x e = (refl, e)
after-there (Err r) s x e = cc

all-passed : (r s : Result (Unit {0}) Refusal) (t : Bool) (n : ℕ) → r ≡ Ok tt → s ≡ Ok tt → t ≡ true → after (after r (after s (cond t (Ok tt) (Err EventsFull)))) (Ok n) ≡ Ok n
all-passed r s t n p q u =
    ap (λ a. after (after a (after s (cond t (Ok tt) (Err EventsFull)))) (Ok n)) p
    ∙ ap (λ a. after (after a (cond t (Ok tt) (Err EventsFull))) (Ok n)) q
    ∙ ap (λ b. after (cond b (Ok tt) (Err EventsFull)) (Ok n)) u

tests : (x y z : Bool) → cond {A = Result (Unit {0}) Refusal} x (cond y (cond z (Ok tt) (Err NoSuchCell)) (Err NoSuchBoard)) (Err SizeOutOfRange) ≡ Ok tt → (y ≡ true) × (z ≡ true)
tests true true true e = (refl, refl)
tests true true false e = cc
tests true false z e = cc
tests false y z e = cc

pub standing-there : (n m b c : ℕ) → standing n m b c ≡ Ok tt → (b < n) × (c < m)
standing-there n m b c e = let t = tests (ranged n m) (ltb b n) (ltb c m) e in (ltb-true b n t.0, ltb-true c m t.1)

in-range : (n m : ℕ) → 1 ≤ n → n ≤ 8 → 1 ≤ m → m ≤ 64 → ranged n m ≡ true
in-range n m a b c d = grind (arith, nat_tests)

standing-back : (n m b c : ℕ) → ranged n m ≡ true → b < n → c < m → standing n m b c ≡ Ok tt
standing-back n m b c r p q = cond-true _ _ _ r ∙ cond-true _ _ _ (lt-ltb b n p) ∙ cond-true _ _ _ (lt-ltb c m q)

accepted-there : (r : Result ℕ Refusal) → accepted r ≡ Ok true → (n : ℕ) × (r ≡ Ok n)
accepted-there (Ok n) e = (n, refl)
accepted-there (Err r) e = cc

found-there : (r : Result (Option ℕ) Refusal) → found r ≡ Ok true → (n : ℕ) × (r ≡ Ok (Some n))
found-there (Ok (Some n)) e = (n, refl)
found-there (Ok None) e = cc
found-there (Err r) e = cc

ended-there : (a : Result Bool Refusal) (n : ℕ) (v : Verdict) → resumed (ended a n) v ≡ AllLegal → (a ≡ Ok true) × (v ≡ AllLegal)
ended-there (Ok true) n v e = (refl, e)
ended-there (Ok false) n v e = cc
ended-there (Err r) n v e = cc

legal-some : (h : List Event) (start c b w : ℕ) → on_boards h ≡ true → b < 8 → Legal h start c b w → (n : ℕ) × (legal h start c b w ≡ Some n)
legal-some h start c b w f s l = go (legal h start c b w) refl
  where
    go : (o : Option ℕ) → legal h start c b w ≡ o → (n : ℕ) × (legal h start c b w ≡ Some n)
    go (Some n) e = (n, e)
    go None e = absurd ((legal_none h start c b w f s).0 e l)

-- ── one step, on a bench whose header is in range and whose cells start with the words ws ──

module _ (H : Header) (R : InRange H) (ws : List ℕ) (long : length ws ≡ H.cells) (all : (c : ℕ) → c < H.cells → get_or ws c 0 ≡ H.start) where
  kept : (h : List Event) → h ≡ h ++ []
  kept h = sym (append-nil h)

  noted : (h : List Event) (e : Event) (r : Result ℕ Refusal) (n : ℕ) → r ≡ Ok n → extended r h e ≡ more h e
  noted h e r n q = ap (λ a. cond (is_ok a) (more h e) h) q

  pub step-there : (t : Task) (h : List Event) → on_boards h ≡ true → task_answer h H.boards ws t ≡ Ok true → Fine H h t × (history_after h H.boards ws t ≡ h ++ event_in t)
  step-there (Note e) h f q =
      let a = accepted-there (note_answer h 2048 H.boards ws e) q in
      let b = after-there (admitted h 2048 H.boards (length ws) e) (Ok (next h)) a.0 a.1 in
      let c = after-there (standing H.boards (length ws) e.board e.cell) _ tt b.0 in
      let d = after-there (allowed (owner_of h e.cell) e.board e.action) _ tt c.1 in
      let s = standing-there H.boards (length ws) e.board e.cell c.0 in
      (((s.0, omega (arith, s.1)), d.0), noted h e _ a.0 a.1)
  step-there (Check b c w) h f q =
      let a = found-there (legal_answer h H.boards ws b c w) q in
      let k = after-there (standing H.boards (length ws) b c) (Ok (legal h (get_or ws c 0) c b w)) (Some a.0) a.1 in
      let s = standing-there H.boards (length ws) b c k.0 in
      let low : c < H.cells = omega (arith, s.1) in
      let small : b < 8 = omega (arith, s.0, R.boards.1) in
      let o : legal h (get_or ws c 0) c b w ≡ Some a.0 = cc in
      let l = (legal-found h H.start c b w f small a.0).0 (ap (λ x. legal h x c b w) (sym (all c low)) ∙ o) in
      (((s.0, low), record { write = _; readable = l.readable; brings = l.brings }), kept h)
  step-there Skip h f q = (tt, kept h)

  pub standing_on : (b c : ℕ) → b < H.boards → c < H.cells → standing H.boards (length ws) b c ≡ Ok tt
  standing_on b c p q =
      standing-back H.boards (length ws) b c (in-range H.boards (length ws) R.boards.0 R.boards.1 (omega (arith, R.cells.0)) (omega (arith, R.cells.1))) p (omega arith)

  pub step_back : (t : Task) (h : List Event) → on_boards h ≡ true → length h < 2048 → Fine H h t → (task_answer h H.boards ws t ≡ Ok true) × (history_after h H.boards ws t ≡ h ++ event_in t)
  step_back (Note e) h f room ((p, q), a) =
      let r = all-passed (standing H.boards (length ws) e.board e.cell) (allowed (owner_of h e.cell) e.board e.action) (ltb (length h) 2048) (next h) (standing_on e.board e.cell p q) a (lt-ltb (length h) 2048 room) in
      (ap accepted r, noted h e _ (next h) r)
  step_back (Check b c w) h f room ((p, q), l) =
      let small : b < 8 = omega (arith, p, R.boards.1) in
      let s = legal-some h H.start c b w f small l in
      (ap (λ x. found (after x (Ok (legal h (get_or ws c 0) c b w)))) (standing_on b c p q) ∙ ap (λ x. found (Ok (legal h x c b w))) (all c q) ∙ ap (λ o. found (Ok o)) s.1, kept h)
  step_back Skip h f room x = (refl, kept h)

  -- ── the steps in turn ──

  pub boards-on : (t : Task) (h : List Event) → on_boards h ≡ true → Fine H h t → on_boards (h ++ event_in t) ≡ true
  boards-on (Note e) h f ((p, q), a) = boards-more h e f (omega (arith, p, R.boards.1))
  boards-on (Check b c w) h f x = ap on_boards (append-nil h) ∙ f
  boards-on Skip h f x = ap on_boards (append-nil h) ∙ f

  pub one_more : (t : Task) (h : List Event) → length (h ++ event_in t) ≤ length h + 1
  one_more (Note e) h = omega (arith, length-append h (e ∷ []))
  one_more (Check b c w) h = omega (arith, length-append h [])
  one_more Skip h = omega (arith, length-append h [])

  pub judged-there : (ps : List PlacedStep) (h : List Event) → on_boards h ≡ true → judged_to AllLegal H.boards ws h ps ≡ AllLegal → Runs H h ps
  judged-there [] h f e = done
  judged-there (p ∷ ps) h f e =
      let s = ended-there (task_answer h H.boards ws (task_of p.step)) p.line _ e in
      let t = step-there (task_of p.step) h f s.0 in
      step t.0 (judged-there ps (h ++ event_in (task_of p.step)) (boards-on (task_of p.step) h f t.0) (subst (λ k. judged_to AllLegal H.boards ws k ps ≡ AllLegal) t.1 s.1))

  pub judged-back : (ps : List PlacedStep) (h : List Event) → on_boards h ≡ true → length h + length ps ≤ 2048 → Runs H h ps → judged_to AllLegal H.boards ws h ps ≡ AllLegal
  judged-back [] h f room done = refl
  judged-back (p ∷ ps) h f room (step x r) =
      let t = step_back (task_of p.step) h f (omega arith) x in
      let m = one_more (task_of p.step) h in
      ap (λ a. resumed (ended a p.line) (judged_to AllLegal H.boards ws (history_after h H.boards ws (task_of p.step)) ps)) t.0
      ∙ ap (λ k. judged_to AllLegal H.boards ws k ps) t.1
      ∙ judged-back ps (h ++ event_in (task_of p.step)) (boards-on (task_of p.step) h f x) (omega arith) r

-- The six steps, with any two words: p acquires, writes u and releases; q writes v, acquires and reads.
use Rattle.std.proofs.Common.{◌≡◌, ℕ, ◌⊎◌, List, [], ◌∷◌, Option, sym, refl, ap, ◌∙◌, subst, ap₂, inl, inr}
use Rattle.std.proofs.lemmas.Bool.{cases_eq}
use Rattle.model.specs.declared.entry.Entry.{Entry}
use Rattle.model.specs.declared.event.Action.{Action}
use Rattle.model.specs.declared.event.Event.{Event}
use Rattle.order.specs.Order.{At, next, more, By, WriteOf, Point, event, Before, IsWrite}
use Rattle.order.proofs.History.{none-not-some, write-not-acquire, write-not-release, at_old, at_new, at-inv}
use Rattle.order.proofs.Growth.{From, Since, new-not-within, new-last, before-inv, before-within, write-inv, write-within}
use Rattle.protocol.specs.Machine.{Cell, Move, reads, writes, acquires, releases, writes_back, completes, ejects, rests, newest, Becomes, Moves}
use Rattle.protocol.specs.Runs.{Opening, event_of, noting}
use Rattle.protocol.specs.Rules.{SixSteps}
use Rattle.protocol.proofs.Steps.{each, owes, owes-here, Left, debts-left, completed, some-owed, opening-settled, release-settled, settled-after, newest-end, OnClean, found, clean-acquire, clean_back}
use Rattle.protocol.proofs.Touches.{Quiet, Steady, Whenever, at_first, after_next}

-- ── what holds on the way ──

-- the board has no event on the cell
abbrev Silent : (c b : ℕ) → List Event → Type 0
Silent c b h = (n : ℕ) (e : Event) → At h n e → By c b e → ⊥

silent-more : (c b : ℕ) (h : List Event) (g : Event) → (By c b g → ⊥) → Silent c b h → Silent c b (more h g)
silent-more c b h g other k n e a y = go (at-inv h g n e a)
  where
    go : At h n e ⊎ ((n ≡ next h) × (g ≡ e)) → ⊥
    go (inl s) = k n e s y
    go (inr (p, q)) = other (subst (By c b) (sym q) y)

-- the write of u by p, after which nothing is written
record Written (c p u : ℕ) (h : List Event) : Type 0 where
  number : ℕ
  made : Event
  stands : At h number made
  write : WriteOf c u made
  board : made.board ≡ p
  top : (y : Point) → IsWrite h c y → Before h c (event number) y → ⊥

written-more : (c p u : ℕ) (h : List Event) (g : Event) → ((w : ℕ) → WriteOf c w g → (x : Point) → From h g c x → ⊥) → Written c p u h → Written c p u (more h g)
written-more c p u h g apart k = record { number = k.number; made = k.made; stands = at_old h g k.number k.made k.stands; write = k.write; board = k.board; top = λ y w i. go y (write-inv h g c y w) (before-inv h g c i) }
  where
    go : (y : Point) → IsWrite h c y ⊎ ((y ≡ event (next h)) × ((w : ℕ) × WriteOf c w g)) → Before h c (event k.number) y ⊎ Since h g c (event k.number) y → ⊥
    go y (inl w) (inl i) = k.top y w i
    go y (inl w) (inr s) = new-not-within h s.new (write-within h g c y w)
    go y (inr (q, w)) (inl i) = new-not-within h q (before-within i).1
    go y (inr (q, (w, is))) (inr s) = apart w is (event k.number) s.from

written_new : (c p u : ℕ) (h : List Event) → Written c p u (more h (event_of c p (Action.Write u)))
written_new c p u h = record { number = next h; made = g; stands = at_new h g; write = (refl, refl); board = refl; top = λ y w i. new-last h g c i }
  where
    g : Event
    g = event_of c p (Action.Write u)

-- a quiet move is no write
settled-quiet : (m : Move) (b : ℕ) (s t : Cell) → Quiet m → Moves m s t → owes s b ≡ [] → owes t b ≡ []
settled-quiet m b s t k v none = settled-after m b (λ w q. subst Quiet q k) v none

-- The board q finds v when it reads, and no other board owes anything.
record Finds (q v : ℕ) (s : Cell) : Type 0 where
  clean : OnClean (λ w. w ≡ v) (s.entry q)
  newest_is : newest (owes s q) s.memory ≡ v
  others : (b : ℕ) → (b ≡ q → ⊥) → owes s b ≡ []

module _ (q v : ℕ) (s t : Cell) (k : Finds q v s) where
  finds-left : Left s t → OnClean (λ w. w ≡ v) (t.entry q) → Finds q v t
  finds-left l clean = record { clean = clean; newest_is = ap₂ newest (l.owes q) l.memory ∙ k.newest_is; others = λ b n. l.owes b ∙ k.others b n }

  clean_at : {b : ℕ} → b ≡ q → OnClean (λ w. w ≡ v) (s.entry b)
  clean_at r = subst (λ i. OnClean (λ w. w ≡ v) (s.entry i)) (sym r) k.clean

  -- the entry of q after a move of b
  clean-by : {b : ℕ} {e : Entry} {ws : List ℕ} {o : Option ℕ} {m : ℕ} → Becomes s t b e ws o m → (b ≡ q → OnClean (λ w. w ≡ v) e) → OnClean (λ w. w ≡ v) (t.entry q)
  clean-by d here = each (λ p e ws. p ≡ q → OnClean (λ w. w ≡ v) e) d here (λ p n r. clean_at r) q refl

  newest-at : {b : ℕ} → b ≡ q → newest (owes s b) s.memory ≡ v
  newest-at r = ap (λ i. newest (owes s i) s.memory) r ∙ k.newest_is

  finds-completed : (b w : ℕ) → Moves (completes b w) s t → Finds q v t
  finds-completed b w x = record { clean = clean-by x.effect (λ r. clean_at r); newest_is = go (cases_eq b q); others = λ p n. settled-quiet (completes b w) p s t tt x (k.others p n) }
    where
      go : (b ≡ q) ⊎ (b ≡ q → ⊥) → newest (owes t q) t.memory ≡ v
      go (inl r) = ap (λ i. newest (owes t i) t.memory) (sym r) ∙ ap₂ newest (owes-here x.effect) x.effect.memory ∙ ap (λ ws. newest ws s.memory) (sym (completed x)) ∙ newest-at r
      go (inr n) = absurd (some-owed (sym (completed x) ∙ k.others b n))

  finds-quiet : (m : Move) → Quiet m → Moves m s t → Finds q v t
  finds-quiet (reads b w) i x = absurd i
  finds-quiet (writes b w) i x = absurd i
  finds-quiet (acquires b) i x = absurd i
  finds-quiet (releases b) i x = absurd i
  finds-quiet (writes_back b) i x = finds-left (debts-left (writes_back b) tt x) (clean-by x.effect (λ r. clean_back (λ w. w ≡ v) (s.entry b) (s.flight b) s.memory (newest-at r) (clean_at r)))
  finds-quiet (completes b w) i x = finds-completed b w x
  finds-quiet (ejects b) i x = finds-left (debts-left (ejects b) tt x) (clean-by x.effect (λ r. tt))
  finds-quiet rests i x = finds-left (debts-left rests tt x) (subst (OnClean (λ w. w ≡ v)) (sym (x.effect.entry q)) k.clean)

  finds-acquired : Moves (acquires q) s t → Finds q v t
  finds-acquired x = finds-left (debts-left (acquires q) tt x) (clean-by x.effect (λ r. clean-acquire (λ w. w ≡ v) (s.entry q)))

finds-written : (q v : ℕ) (s t : Cell) → ((b : ℕ) → (b ≡ q → ⊥) → owes s b ≡ []) → Moves (writes q v) s t → Finds q v t
finds-written q v s t others x = record {
  clean = subst (OnClean (λ w. w ≡ v)) (sym x.effect.own_entry) tt;
  newest_is = ap (λ ws. newest ws t.memory) (owes-here x.effect) ∙ newest-end (s.flight q) v t.memory;
  others = λ b n. settled-after (writes q v) b (λ w r. n (sym (same_writer r))) x (others b n);
}
  where
    same_writer : {b c u w : ℕ} → writes b u ≡ writes c w → b ≡ c
    same_writer r = cc

finds-read : (q v w : ℕ) (s t : Cell) → Finds q v s → Moves (reads q w) s t → w ≡ v
finds-read q v w s t k x = x.guard ∙ found (λ i. i ≡ v) (s.entry q) (s.flight q) s.memory k.clean k.newest_is

-- ── the stages ──

module _ (c start p q u v : ℕ) (differ : p ≡ q → ⊥) where
  -- at first: only p may owe, and q has done nothing
  record Early (h : List Event) (s : Cell) : Type 0 where
    others : (b : ℕ) → (b ≡ p → ⊥) → owes s b ≡ []
    silent : Silent c q h

  -- when p has written: the same, and its write is the last
  record Middle (h : List Event) (s : Cell) : Type 0 where
    early : Early h s
    written : Written c p u h

  -- when p has released: nobody owes
  record Free (h : List Event) (s : Cell) : Type 0 where
    settled : (b : ℕ) → owes s b ≡ []
    silent : Silent c q h
    written : Written c p u h

  -- when q has written: it finds its word, and nothing came after the write of p
  record Late (h : List Event) (s : Cell) : Type 0 where
    written : Written c p u h
    finds : Finds q v s

  written_far : (h : List Event) (e : Event) → (e.cell ≡ c → ⊥) → Written c p u h → Written c p u (more h e)
  written_far h e apart = written-more c p u h e (λ w is. absurd (apart is.0))

  silent_far : (h : List Event) (e : Event) → (e.cell ≡ c → ⊥) → Silent c q h → Silent c q (more h e)
  silent_far h e apart = silent-more c q h e (λ y. apart y.0)

  steady_early : Steady c Early
  steady_early = record {
    quiet = λ h m s t i x k. record { others = λ b n. settled-quiet m b s t i x (k.others b n); silent = k.silent };
    far = λ h e s apart k. record { others = k.others; silent = silent_far h e apart k.silent };
  }

  steady_middle : Steady c Middle
  steady_middle = record {
    quiet = λ h m s t i x k. record { early = steady_early.quiet h m s t i x k.early; written = k.written };
    far = λ h e s apart k. record { early = steady_early.far h e s apart k.early; written = written_far h e apart k.written };
  }

  steady_free : Steady c Free
  steady_free = record {
    quiet = λ h m s t i x k. record { settled = λ b. settled-quiet m b s t i x (k.settled b); silent = k.silent; written = k.written };
    far = λ h e s apart k. record { settled = k.settled; silent = silent_far h e apart k.silent; written = written_far h e apart k.written };
  }

  steady_late : Steady c Late
  steady_late = record {
    quiet = λ h m s t i x k. record { written = k.written; finds = finds-quiet q v s t k.finds m i x };
    far = λ h e s apart k. record { written = written_far h e apart k.written; finds = k.finds };
  }

  opening : (s : Cell) → Opening start s → Early [] s
  opening s o = record { others = λ b n. opening-settled o b; silent = λ n e a. absurd (none-not-some a) }

  first : (h : List Event) (s t : Cell) → Moves (acquires p) s t → Early h s → Early (noting c (acquires p) h) t
  first h s t x k = record { others = λ b n. (debts-left (acquires p) tt x).owes b ∙ k.others b n; silent = silent-more c q h (event_of c p Action.Acquire) (λ y. differ y.1) k.silent }

  second : (h : List Event) (s t : Cell) → Moves (writes p u) s t → Early h s → Middle (noting c (writes p u) h) t
  second h s t x k = record { early = record { others = (finds-written p u s t k.others x).others; silent = silent-more c q h (event_of c p (Action.Write u)) (λ y. differ y.1) k.silent }; written = written_new c p u h }

  third : (h : List Event) (s t : Cell) → Moves (releases p) s t → Middle h s → Free (noting c (releases p) h) t
  third h s t x k = record { settled = λ b. (debts-left (releases p) tt x).owes b ∙ go b (cases_eq b p); silent = silent-more c q h g (λ y. differ y.1) k.early.silent; written = written-more c p u h g (λ w is. absurd (write-not-release is.1 refl)) k.written }
    where
      g : Event
      g = event_of c p Action.Release

      go : (b : ℕ) → (b ≡ p) ⊎ (b ≡ p → ⊥) → owes s b ≡ []
      go b (inl r) = ap (owes s) r ∙ release-settled x
      go b (inr n) = k.early.others b n

  fourth : (h : List Event) (s t : Cell) → Moves (writes q v) s t → Free h s → Late (noting c (writes q v) h) t
  fourth h s t x k = record { written = written-more c p u h g (λ w is y f. strange f) k.written; finds = finds-written q v s t (λ b n. k.settled b) x }
    where
      g : Event
      g = event_of c q (Action.Write v)

      -- q has no event on the cell, so that its write comes after none
      strange : {y : Point} → From h g c y → ⊥
      strange (inl i) = k.silent i.latest i.is_latest.event i.is_latest.stands i.is_latest.kind
      strange (inr (a, i)) = write-not-acquire {w = v} refl a

  fifth : (h : List Event) (s t : Cell) → Moves (acquires q) s t → Late h s → Late (noting c (acquires q) h) t
  fifth h s t x k = record { written = written-more c p u h (event_of c q Action.Acquire) (λ w is. absurd (write-not-acquire is.1 refl)) k.written; finds = finds-acquired q v s t k.finds x }

  five : Whenever c start (acquires q ∷ writes q v ∷ releases p ∷ writes p u ∷ acquires p ∷ []) Late
  five =
      after_next c start Late steady_late Late (acquires q) _ fifth
      (after_next c start Late steady_late Free (writes q v) _ fourth
      (after_next c start Free steady_free Middle (releases p) _ third
      (after_next c start Middle steady_middle Early (writes p u) _ second
      (after_next c start Early steady_early Early (acquires p) _ first
      (at_first c start Early steady_early opening)))))

pub six_steps : SixSteps
six_steps c start p q w h ms s t differ r e x =
    let k = five c start p q 1 2 differ h ms s r e in
    let o = k.written in
    (finds-read q 2 w s t k.finds x, record { number = o.number; written = o.made; stands = o.stands; write = o.write; board = o.board; readable = record { write = (o.made, 1, o.stands, o.write); current = λ i. o.top i.by i.write i.later } })

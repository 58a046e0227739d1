-- What boards owe the memory, and what the memory has, are writes of the history: the words that a board owes are writes of
-- its own, and whatever was written after the memory's write is still owed.
use Rattle.std.proofs.Common.{◌≡◌, ℕ, ◌⊎◌, List, [], ◌∷◌, ◌++◌, sym, refl, ◌∙◌, subst, inl, inr}
use Rattle.model.specs.declared.event.Action.{Action}
use Rattle.model.specs.declared.event.Event.{Event}
use Rattle.order.specs.Order.{next, more, By, WriteOf, Point, event, Before, IsWrite, Brings, Known, Overwritten, Legal, Readable}
use Rattle.order.proofs.History.{write-not-release, acquire-not-release}
use Rattle.order.proofs.Growth.{Since, is-by, new-not-within, before-inv, write-within, write-inv}
use Rattle.protocol.specs.Machine.{Cell, writes, completes, newest, sent, later, Moves}
use Rattle.protocol.specs.Runs.{event_of}
use Rattle.protocol.proofs.Steps.{each, owed, owes, owes-here, Left, completed, some-owed, one-owed}
use Rattle.protocol.proofs.Writes.{Own, brings-write, own-brings, own-legal, own-later, own-newest, own-more, own_new, readable-new, readable-more, readable-acquire, brings-up}

-- ── the definitions ──

-- The board p owes the word v: that of a write of its own, which is readable for p if it is the last that p owes.
pub record Due (h : List Event) (c p v : ℕ) (Last : Type 0) : Type 0 where
  pub number : ℕ
  pub own : Own h c p number v
  pub last : Last → Readable h c p (event number)

abbrev pub Owed : List Event → (c p : ℕ) → List ℕ → Type 0
Owed h c p [] = Unit {0}
Owed h c p (v ∷ ws) = Due h c p v (ws ≡ []) × Owed h c p ws

-- The write y is its board's own, and that board still owes something.
pub record Pending (h : List Event) (c : ℕ) (Waits : ℕ → Type 0) (y : Point) : Type 0 where
  pub board : ℕ
  pub number : ℕ
  pub word : ℕ
  pub is : y ≡ event number
  pub own : Own h c board number word
  pub waits : Waits board

-- The word m of the memory is that of a write, and every write after that one is pending.
pub record Memory (h : List Event) (start c m : ℕ) (Waits : ℕ → Type 0) : Type 0 where
  pub write : Point
  pub brings : Brings h start c write m
  pub later : (y : Point) → IsWrite h c y → Before h c write y → Pending h c Waits y

abbrev pub Waits : Cell → ℕ → Type 0
Waits s p = owes s p ≡ [] → ⊥

pub record Debts (h : List Event) (start c : ℕ) (s : Cell) : Type 0 where
  pub owed : (p : ℕ) → Owed h c p (owes s p)
  pub memory : Memory h start c s.memory (Waits s)

-- ── what a board with no clean entry reads ──

newest-legal : {h : List Event} {start c p : ℕ} (ws : List ℕ) (m : ℕ) → Owed h c p ws → (ws ≡ [] → Legal h start c p m) → Legal h start c p (newest ws m)
newest-legal [] m k l = l refl
newest-legal {start = start} (v ∷ []) m k l = own-legal start k.0.own (k.0.last refl)
newest-legal (v ∷ w ∷ ws) m k l = newest-legal (w ∷ ws) v k.1 (λ q. absurd (some-owed q))

memory-legal : {h : List Event} {start c p m : ℕ} {W : ℕ → Type 0} → (W p → ⊥) → Memory h start c m W → Legal h start c p m
memory-legal {h} {start} {c} {p} {m} {W} idle k = record { write = k.write; readable = record { write = brings-write h start c m k.write k.brings; current = current }; brings = k.brings }
  where
    current : Overwritten h c p k.write → ⊥
    current o =
        let r = k.later o.by o.write o.later in
        idle (subst W (sym (r.own.private p (subst (Known h c p) r.is o.known))) r.waits)

pub debts-legal : {h : List Event} {start c : ℕ} {s : Cell} → Debts h start c s → (p : ℕ) → Legal h start c p (newest (owes s p) s.memory)
debts-legal {s = s} k p = newest-legal (owes s p) s.memory (k.owed p) (λ q. memory-legal (λ w. w q) k.memory)

-- ── moves that leave all debts ──

memory-waits : {h : List Event} {start c m : ℕ} {W V : ℕ → Type 0} → ((p : ℕ) → W p → V p) → Memory h start c m W → Memory h start c m V
memory-waits f k = record { write = k.write; brings = k.brings; later = λ y w u. let r = k.later y w u in record { board = r.board; number = r.number; word = r.word; is = r.is; own = r.own; waits = f r.board r.waits } }

pub debts-alike : {h : List Event} {start c : ℕ} {s t : Cell} → Left s t → Debts h start c s → Debts h start c t
debts-alike {h} {start} {c} {s} {t} l k = record {
  owed = λ p. subst (Owed h c p) (sym (l.owes p)) (k.owed p);
  memory = subst (λ m. Memory h start c m (Waits t)) (sym l.memory) (memory-waits (λ p w q. w (sym (l.owes p) ∙ q)) k.memory);
}

-- ── one more event ──

module _ (h : List Event) (g : Event) (c : ℕ) where
  pub owed_more : {p : ℕ} (ws : List ℕ) → (By c p g → g.action ≡ Action.Acquire) → Owed h c p ws → Owed (more h g) c p ws
  owed_more [] keep k = tt
  owed_more {p} (v ∷ ws) keep (d, k) = (record { number = d.number; own = own-more h g c (λ y r. acquire-not-release (keep y) r) d.own; last = λ q. go (d.last q) (is-by c p g) }, owed_more ws keep k)
    where
      go : Readable h c p (event d.number) → By c p g ⊎ (By c p g → ⊥) → Readable (more h g) c p (event d.number)
      go r (inl y) = readable-acquire h g c y (keep y) d.own.hidden r
      go r (inr n) = readable-more h g c (λ y. absurd (n y)) r

  -- the board's own write: it drops what its entry had, and is the last
  pub owed-write : {p v : ℕ} (ws rest : List ℕ) → WriteOf c v g → g.board ≡ p → Owed h c p (ws ++ rest) → Owed (more h g) c p (ws ++ v ∷ [])
  owed-write [] rest is by k = (record { number = next h; own = own_new h g c is by; last = λ q. readable-new h g c is }, tt)
  owed-write {v = v} (w ∷ ws) rest is by (d, k) = (record { number = d.number; own = own-more h g c (λ y r. write-not-release is.1 r) d.own; last = λ q. absurd (one-owed ws v q) }, owed-write ws rest is by k)

  -- the memory, while no board that owes releases, and a board that writes owes afterwards
  memory-more : {start m : ℕ} {W V : ℕ → Type 0} → ((p : ℕ) → W p → V p) → ((p : ℕ) → W p → By c p g → g.action ≡ Action.Release → ⊥) → ((v : ℕ) → WriteOf c v g → V g.board) → Memory h start c m W → Memory (more h g) start c m V
  memory-more {start} {m} {W} {V} still keep fresh k = record { write = k.write; brings = brings-up h g c start m k.write k.brings; later = λ y w u. go y (write-inv h g c y w) (before-inv h g c u) }
    where
      go : (y : Point) → IsWrite h c y ⊎ ((y ≡ event (next h)) × ((v : ℕ) × WriteOf c v g)) → Before h c k.write y ⊎ Since h g c k.write y → Pending (more h g) c V y
      go y (inl w) (inl u) = let r = k.later y w u in record { board = r.board; number = r.number; word = r.word; is = r.is; own = own-more h g c (keep r.board r.waits) r.own; waits = still r.board r.waits }
      go y (inl w) (inr s) = absurd (new-not-within h s.new (write-within h g c y w))
      go y (inr (q, (v, is))) u = record { board = g.board; number = next h; word = v; is = q; own = own_new h g c is refl; waits = fresh v is }

  -- an event that is no write: an acquire, a release by a board that owes nothing, an event of another cell
  pub debts-more : {start : ℕ} {s : Cell} → ((v : ℕ) → WriteOf c v g → ⊥) → ((p : ℕ) → By c p g → (g.action ≡ Action.Acquire) ⊎ (owes s p ≡ [])) → Debts h start c s → Debts (more h g) start c s
  debts-more {start} {s} quiet keep k = record { owed = λ p. go p (is-by c p g); memory = memory-more (λ p w. w) held (λ v is. absurd (quiet v is)) k.memory }
    where
      on : (p : ℕ) → (g.action ≡ Action.Acquire) ⊎ (owes s p ≡ []) → Owed (more h g) c p (owes s p)
      on p (inl a) = owed_more (owes s p) (λ y. a) (k.owed p)
      on p (inr none) = subst (Owed (more h g) c p) (sym none) tt

      go : (p : ℕ) → By c p g ⊎ (By c p g → ⊥) → Owed (more h g) c p (owes s p)
      go p (inl y) = on p (keep p y)
      go p (inr n) = owed_more (owes s p) (λ y. absurd (n y)) (k.owed p)

      held : (p : ℕ) → Waits s p → By c p g → g.action ≡ Action.Release → ⊥
      held p w y r = off (keep p y)
        where
          off : (g.action ≡ Action.Acquire) ⊎ (owes s p ≡ []) → ⊥
          off (inl a) = acquire-not-release a r
          off (inr none) = w none

-- ── the moves that change debts ──

pub debts-written : (h : List Event) {start : ℕ} (c b w : ℕ) {s t : Cell} → Moves (writes b w) s t → Debts h start c s → Debts (more h (event_of c b (Action.Write w))) start c t
debts-written h {start} c b w {s} {t} v k = record {
  owed = each (λ p e ws. Owed (more h g) c p (owed e ws)) v.effect (owed-write h g c (s.flight b) (sent (s.entry b)) (refl, refl) refl (k.owed b)) (λ p n. owed_more h g c (owes s p) (λ y. absurd (n (sym y.1))) (k.owed p));
  memory = subst (λ m. Memory (more h g) start c m (Waits t)) (sym v.effect.memory) (memory-more h g c still (λ p i y r. write-not-release {w = w} refl r) (λ u is. fresh) k.memory);
}
  where
    g : Event
    g = event_of c b (Action.Write w)

    still : (p : ℕ) → Waits s p → Waits t p
    still = each (λ p e ws. Waits s p → owed e ws ≡ [] → ⊥) v.effect (λ i. one-owed (s.flight b) w) (λ p n i. i)

    fresh : Waits t b
    fresh q = one-owed (s.flight b) w (sym (owes-here v.effect) ∙ q)

-- the write that is completed is the memory's now; a write after it is the same board's own, and the board still owes
pub debts-completed : {h : List Event} {start c : ℕ} (b w : ℕ) {s t : Cell} → Moves (completes b w) s t → Debts h start c s → Debts h start c t
debts-completed {h} {start} {c} b w {s} {t} v k = record {
  owed = each (λ p e ws. Owed h c p (owed e ws)) v.effect due.1 (λ p n. k.owed p);
  memory = subst (λ m. Memory h start c m (Waits t)) (sym v.effect.memory) (record { write = event d.number; brings = own-brings start d.own; later = λ y i u. go y i u (own-later d.own y i u) });
}
  where
    due : Owed h c b (w ∷ owed (s.entry b) (later (s.flight b)))
    due = subst (Owed h c b) (completed v) (k.owed b)

    d : Due h c b w (owed (s.entry b) (later (s.flight b)) ≡ [])
    d = due.0

    go : (y : Point) → IsWrite h c y → Before h c (event d.number) y → (m : ℕ) × (i : ℕ) × (y ≡ event m) × Own h c b m i → Pending h c (Waits t) y
    go y is u (m, i, q, o) = record { board = b; number = m; word = i; is = q; own = o; waits = λ none. own-newest d.own (d.last (sym (owes-here v.effect) ∙ none)) y is u }

-- Writes that only their own board knows of, writes with no later write, and what stays readable, as one more event comes.
use Rattle.std.proofs.Common.{◌≡◌, ℕ, ◌⊎◌, List, sym, ap, ◌∙◌, subst, inl, inr, arith}
use Rattle.model.specs.declared.event.Action.{Action}
use Rattle.model.specs.declared.event.Event.{Event}
use Rattle.order.specs.Order.{At, next, more, By, WriteOf, Latest, Point, initial_release, event, LatestRelease, some_release, no_release, Before, IsWrite, Known, Overwritten, Readable}
use Rattle.order.proofs.History.{write-not-release, acquire-not-release, event-same, at_same, at_old, at_new}
use Rattle.order.proofs.Growth.{UpTo, Published, From, Since, new-not-within, known-within, before-inv, before-old, before-within, new-last, known-inv, write_up, write-inv, write-old, write-within}

-- y is an event of the board p, and no release.
pub record Mine (h : List Event) (p : ℕ) (y : Point) : Type 0 where
  pub number : ℕ
  pub is : y ≡ event number
  pub of : Event
  pub stands : At h number of
  pub board : of.board ≡ p
  pub unreleased : of.action ≡ Action.Release → ⊥

-- The event numbered n is a write of v by p, and whatever comes after it is by p too, and no release.
pub record Own (h : List Event) (c p n v : ℕ) : Type 0 where
  pub write : Event
  pub stands : At h n write
  pub by : By c p write
  pub action : write.action ≡ Action.Write v
  pub private : (y : Point) → Before h c (event n) y → Mine h p y

-- No write comes after x.
abbrev pub Top : List Event → (c : ℕ) → Point → Type 0
Top h c x = (y : Point) → IsWrite h c y → Before h c x y → ⊥

pub own_write : {h : List Event} {c p n v : ℕ} → Own h c p n v → IsWrite h c (event n)
own_write {v = v} o = (o.write, v, o.stands, (o.by.0, o.action))

pub top-readable : (h : List Event) (c b : ℕ) (x : Point) → IsWrite h c x → Top h c x → Readable h c b x
top-readable h c b x w top = record { write = w; current = λ o. top o.by o.write o.later }

mine-at : (h : List Event) (p m : ℕ) (e : Event) → At h m e → Mine h p (event m) → (e.board ≡ p) × (e.action ≡ Action.Release → ⊥)
mine-at h p m e a r = (ap (λ (f : Event). f.board) same ∙ r.board, λ q. r.unreleased (sym (ap (λ (f : Event). f.action) same) ∙ q))
  where
    same : e ≡ r.of
    same = at_same h m e r.of a (subst (λ (k : ℕ). At h k r.of) (sym (event-same r.is)) r.stands)

-- an own write is known to no other board, and not published
pub own-known : {h : List Event} {c p n v b : ℕ} → Own h c p n v → Known h c b (event n) → b ≡ p
own-known {h} {c} {p} {n} {v} {b} o k = go k.latest k.is_latest k.up_to
  where
    go : (m : ℕ) → Latest h (By c b) (next h) m → UpTo h c (event n) (event m) → b ≡ p
    go m l (inl q) = sym l.kind.1 ∙ ap (λ (f : Event). f.board) (at_same h n l.event o.write (subst (λ (k : ℕ). At h k l.event) (sym (event-same q)) l.stands) o.stands) ∙ o.by.1
    go m l (inr u) = sym l.kind.1 ∙ (mine-at h p m l.event l.stands (o.private (event m) u)).0

pub own-unpublished : {h : List Event} {c p n v : ℕ} → Own h c p n v → Published h c (event n) → ⊥
own-unpublished {h} {c} {p} {n} {v} o k = go k.latest k.is_latest k.up_to
  where
    apart : {m : ℕ} → event m ≡ initial_release → ⊥
    apart q = let z : ◌≡◌ {A = ℕ} 0 1 = cc in omega arith

    go : (z : Point) → LatestRelease h c (next h) z → UpTo h c (event n) z → ⊥
    go z (some_release {m} l) (inl q) = write-not-release o.action (ap (λ (f : Event). f.action) (at_same h n o.write l.event o.stands (subst (λ (k : ℕ). At h k l.event) (sym (event-same q)) l.stands)) ∙ l.kind.1)
    go z (some_release {m} l) (inr u) = (mine-at h p m l.event l.stands (o.private (event m) u)).1 l.kind.1
    go z (no_release none) (inl q) = apart q
    go z (no_release none) (inr u) = let r = o.private initial_release u in apart (sym r.is)

module _ (h : List Event) (g : Event) (c : ℕ) where
  pub own_new : (p v : ℕ) → By c p g → g.action ≡ Action.Write v → Own (more h g) c p (next h) v
  own_new p v mine a = record { write = g; stands = at_new h g; by = mine; action = a; private = λ y u. absurd (new-last h g c u) }

  -- what an own write comes before, among new events, is its own board's
  own-from : {p n v : ℕ} → Own h c p n v → From h g c (event n) → g.board ≡ p
  own-from o (inl k) = own-known o k
  own-from o (inr (q, k)) = absurd (own-unpublished o k)

  -- a write stays its board's own until that board releases
  pub own-more : (p n v : ℕ) → (By c p g → g.action ≡ Action.Release → ⊥) → Own h c p n v → Own (more h g) c p n v
  own-more p n v keep o = record { write = o.write; stands = at_old h g n o.write o.stands; by = o.by; action = o.action; private = λ y u. go (before-inv h g c u) }
    where
      go : {y : Point} → Before h c (event n) y ⊎ Since h g c (event n) y → Mine (more h g) p y
      go {y} (inl w) = let r = o.private y w in record { number = r.number; is = r.is; of = r.of; stands = at_old h g r.number r.of r.stands; board = r.board; unreleased = r.unreleased }
      go (inr s) = let b = own-from o s.from in record { number = next h; is = s.new; of = g; stands = at_new h g; board = b; unreleased = keep (s.cell, b) }

  -- an own write stays the last until its board writes again
  pub top-more : (p n v : ℕ) → (By c p g → (w : ℕ) → g.action ≡ Action.Write w → ⊥) → Own h c p n v → Top h c (event n) → Top (more h g) c (event n)
  top-more p n v keep o top y w u = go (write-inv h g c y w) (before-inv h g c u)
    where
      go : IsWrite h c y ⊎ ((y ≡ event (next h)) × ((v : ℕ) × WriteOf c v g)) → Before h c (event n) y ⊎ Since h g c (event n) y → ⊥
      go (inl r) (inl k) = top y r k
      go (inl r) (inr s) = new-not-within h s.new (write-within h g c y r)
      go (inr (q, r)) (inl k) = new-not-within h q (before-within k).1
      go (inr (q, (i, r))) (inr s) = keep (s.cell, own-from o s.from) i r.1

  -- no write comes after a point if none did, and the new event is no write of the cell
  pub top-quiet : (x : Point) → ((w : ℕ) → WriteOf c w g → ⊥) → Top h c x → Top (more h g) c x
  top-quiet x quiet top y w u = go (write-inv h g c y w) (before-inv h g c u)
    where
      go : IsWrite h c y ⊎ ((y ≡ event (next h)) × ((v : ℕ) × WriteOf c v g)) → Before h c x y ⊎ Since h g c x y → ⊥
      go (inl r) (inl k) = top y r k
      go (inl r) (inr s) = new-not-within h s.new (write-within h g c y r)
      go (inr (q, (i, r))) k = quiet i r

  -- what is readable for a board stays so, until it acquires or writes
  pub readable-more : (b : ℕ) (x : Point) → (By c b g → g.action ≡ Action.Release) → Readable h c b x → Readable (more h g) c b x
  readable-more b x keep r = record { write = write_up h g c x r.write; current = λ o. go o (known-inv h g c o.known) }
    where
      old : (o : Overwritten (more h g) c b x) → Known h c b o.by → ⊥
      old o k = let i = known-within k in r.current (record { by = o.by; write = write-old h g c o.by i o.write; later = before-old h g c i o.later; known = k })

      new : (o : Overwritten (more h g) c b x) → By c b g → o.by ≡ event (next h) → IsWrite h c o.by ⊎ ((o.by ≡ event (next h)) × ((v : ℕ) × WriteOf c v g)) → ⊥
      new o mine p (inl w) = new-not-within h p (write-within h g c o.by w)
      new o mine p (inr (q, (v, w))) = write-not-release w.1 (keep mine)

      go : (o : Overwritten (more h g) c b x) → (By c b g × ((o.by ≡ event (next h)) ⊎ From h g c o.by)) ⊎ ((By c b g → ⊥) × Known h c b o.by) → ⊥
      go o (inl (mine, inl p)) = new o mine p (write-inv h g c o.by o.write)
      go o (inl (mine, inr (inl k))) = old o (subst (λ (i : ℕ). Known h c i o.by) mine.1 k)
      go o (inl (mine, inr (inr (a, k)))) = acquire-not-release a (keep mine)
      go o (inr (n, k)) = old o k

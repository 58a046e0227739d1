-- A sight is the set of points at or before one point: a board's latest event on a cell, or the cell's latest release.
-- What a sight has, and which writes it has another write after, as one more event comes.
use Rattle.std.proofs.Common.{◌≡◌, ℕ, ◌⊎◌, ◌↔◌, List, refl, subst, inl, inr}
use Rattle.model.specs.declared.event.Action.{Action}
use Rattle.model.specs.declared.event.Event.{Event}
use Rattle.order.specs.Order.{next, more, By, WriteOf, ReleaseOf, Point, event, Before, IsWrite, Known, Overwritten}
use Rattle.order.specs.Laws.{Within}
use Rattle.order.proofs.History.{write-not-release, write-not-acquire, acquire-not-release, at_new}
use Rattle.order.proofs.Growth.{Published, new-not-within, known-within, published-within, known-before, From, before-up, before-old, new-last, before-new, before-acquire}
use Rattle.order.proofs.Growth.{known-inv, known-end, known-new, known_by, known_up, published-inv, published-end, published-new, write_up, write-inv, write-old, write-within}

-- a write in sight that x is before
pub record Over (h : List Event) (c : ℕ) (V : Point → Type 0) (x : Point) : Type 0 where
  pub by : Point
  pub write : IsWrite h c by
  pub later : Before h c x by
  pub seen : V by

pub over-known : {h : List Event} {c b : ℕ} {x : Point} → Over h c (Known h c b) x ↔ Overwritten h c b x
over-known = (λ o. record { by = o.by; write = o.write; later = o.later; known = o.seen }, λ o. record { by = o.by; write = o.write; later = o.later; seen = o.known })

pub over-either : {h : List Event} {c : ℕ} {x : Point} (V U : Point → Type 0) → Over h c (λ y. V y ⊎ U y) x ↔ (Over h c V x ⊎ Over h c U x)
over-either {h} {c} {x} V U = (λ o. there o o.seen, back)
  where
    there : (o : Over h c (λ y. V y ⊎ U y) x) → V o.by ⊎ U o.by → Over h c V x ⊎ Over h c U x
    there o (inl v) = inl (record { by = o.by; write = o.write; later = o.later; seen = v })
    there o (inr u) = inr (record { by = o.by; write = o.write; later = o.later; seen = u })

    back : Over h c V x ⊎ Over h c U x → Over h c (λ y. V y ⊎ U y) x
    back (inl o) = record { by = o.by; write = o.write; later = o.later; seen = inl o.seen }
    back (inr o) = record { by = o.by; write = o.write; later = o.later; seen = inr o.seen }

module _ (h : List Event) (g : Event) (c : ℕ) where
  -- After the event g the sight W has the writes that V had before it, and no others.
  pub record Same (V W : Point → Type 0) : Type 0 where
    pub within : (y : Point) → V y → Within h y
    pub down : (y : Point) → IsWrite (more h g) c y → W y → V y
    pub up : (y : Point) → V y → W y

  pub over_same : {V W : Point → Type 0} {x : Point} → Same V W → Over (more h g) c W x ↔ Over h c V x
  over_same {V} {W} {x} s = (there, back)
    where
      there : Over (more h g) c W x → Over h c V x
      there o =
          let v = s.down o.by o.write o.seen in
          let i = s.within o.by v in
          record { by = o.by; write = write-old h g c o.by i o.write; later = before-old h g c i o.later; seen = v }

      back : Over h c V x → Over (more h g) c W x
      back o = record { by = o.by; write = write_up h g c o.by o.write; later = before-up h g c o.later; seen = s.up o.by o.seen }

  -- the new event is in sight as a write only if it is one
  not_new : {y : Point} → ((w : ℕ) → WriteOf c w g → ⊥) → IsWrite (more h g) c y → y ≡ event (next h) → ⊥
  not_new {y} quiet w p = go (write-inv h g c y w)
    where
      go : IsWrite h c y ⊎ ((y ≡ event (next h)) × ((v : ℕ) × WriteOf c v g)) → ⊥
      go (inl i) = new-not-within h p (write-within h g c y i)
      go (inr (q, (v, i))) = quiet v i

  -- a board's sight at an event that is not its own on the cell
  pub same_else : (b : ℕ) → (By c b g → ⊥) → Same (Known h c b) (Known (more h g) c b)
  same_else b other = record { within = λ y. known-within; down = λ y w k. go (known-inv h g c k); up = λ y. known-end h g c other }
    where
      go : {y : Point} → (By c b g × ((y ≡ event (next h)) ⊎ From h g c y)) ⊎ ((By c b g → ⊥) × Known h c b y) → Known h c b y
      go (inl (mine, k)) = absurd (other mine)
      go (inr (n, k)) = k

  -- at its own release and at its own acquire
  pub same_release : (b : ℕ) → By c b g → g.action ≡ Action.Release → Same (Known h c b) (Known (more h g) c b)
  same_release b mine a = record { within = λ y. known-within; down = λ y w k. go w (known-inv h g c k); up = λ y. known_up h g c mine }
    where
      go : {y : Point} → IsWrite (more h g) c y → (By c b g × ((y ≡ event (next h)) ⊎ From h g c y)) ⊎ ((By c b g → ⊥) × Known h c b y) → Known h c b y
      go w (inl (i, inl p)) = absurd (not_new (λ v r. write-not-release r.1 a) w p)
      go {y} w (inl (i, inr (inl k))) = subst (λ (j : ℕ). Known h c j y) i.1 k
      go w (inl (i, inr (inr (q, k)))) = absurd (acquire-not-release q a)
      go w (inr (n, k)) = k

  pub same_acquire : (b : ℕ) → By c b g → g.action ≡ Action.Acquire → Same (λ y. Known h c b y ⊎ Published h c y) (Known (more h g) c b)
  same_acquire b mine a = record { within = λ y. inside; down = λ y w k. go w (known-inv h g c k); up = λ y. up }
    where
      inside : {y : Point} → Known h c b y ⊎ Published h c y → Within h y
      inside (inl k) = known-within k
      inside (inr k) = published-within k

      go : {y : Point} → IsWrite (more h g) c y → (By c b g × ((y ≡ event (next h)) ⊎ From h g c y)) ⊎ ((By c b g → ⊥) × Known h c b y) → Known h c b y ⊎ Published h c y
      go w (inl (i, inl p)) = absurd (not_new (λ v r. write-not-acquire r.1 a) w p)
      go {y} w (inl (i, inr (inl k))) = inl (subst (λ (j : ℕ). Known h c j y) i.1 k)
      go w (inl (i, inr (inr (q, k)))) = inr k
      go w (inr (n, k)) = inl k

      up : {y : Point} → Known h c b y ⊎ Published h c y → Known (more h g) c b y
      up (inl k) = known_up h g c mine k
      up (inr k) = known-new h g c mine (inr (before-acquire h g c (mine.0, a) k))

  -- the latest release: one more release, and any other event
  pub same_published : (ReleaseOf c g → ⊥) → Same (Published h c) (Published (more h g) c)
  same_published other = record { within = λ y. published-within; down = λ y w k. go (published-inv h g c k); up = λ y. published-end h g c other }
    where
      go : {y : Point} → (ReleaseOf c g × ((y ≡ event (next h)) ⊎ From h g c y)) ⊎ ((ReleaseOf c g → ⊥) × Published h c y) → Published h c y
      go (inl (r, k)) = absurd (other r)
      go (inr (n, k)) = k

  pub same_releasing : ReleaseOf c g → Same (Known h c g.board) (Published (more h g) c)
  same_releasing r = record { within = λ y. known-within; down = λ y w k. go w (published-inv h g c k); up = λ y k. published-new h g c r (inr (before-new h g c r.0 k)) }
    where
      go : {y : Point} → IsWrite (more h g) c y → (ReleaseOf c g × ((y ≡ event (next h)) ⊎ From h g c y)) ⊎ ((ReleaseOf c g → ⊥) × Published h c y) → Known h c g.board y
      go w (inl (i, inl p)) = absurd (not_new (λ v q. write-not-release q.1 r.1) w p)
      go w (inl (i, inr (inl k))) = k
      go w (inl (i, inr (inr (q, k)))) = absurd (acquire-not-release q r.1)
      go w (inr (n, k)) = absurd (n r)

  -- A board's own write: it knows what it knew and the new write, which is after all of that.
  module _ (b v : ℕ) (mine : By c b g) (a : g.action ≡ Action.Write v) where
    pub known_write : {x : Point} → Within h x → Known (more h g) c b x ↔ Known h c b x
    known_write {x} i = (λ k. go (known-inv h g c k), known_up h g c mine)
      where
        go : (By c b g × ((x ≡ event (next h)) ⊎ From h g c x)) ⊎ ((By c b g → ⊥) × Known h c b x) → Known h c b x
        go (inl (j, inl p)) = absurd (new-not-within h p i)
        go (inl (j, inr (inl k))) = subst (λ (n : ℕ). Known h c n x) j.1 k
        go (inl (j, inr (inr (q, k)))) = absurd (write-not-acquire a q)
        go (inr (n, k)) = k

    pub over_write : {x : Point} → Within h x → Over (more h g) c (Known (more h g) c b) x ↔ Known h c b x
    over_write {x} i = (there, back)
      where
        there : Over (more h g) c (Known (more h g) c b) x → Known h c b x
        there o = (known_write i).0 (known-before o.later o.seen)

        back : Known h c b x → Over (more h g) c (Known (more h g) c b) x
        back k = record { by = event (next h); write = (g, v, at_new h g, (mine.0, a)); later = before-new h g c mine.0 (known_by h g c mine k); seen = known-new h g c mine (inl refl) }

  pub over_new : {W : Point → Type 0} → Over (more h g) c W (event (next h)) → ⊥
  over_new o = new-last h g c o.later

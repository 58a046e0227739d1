-- What one more event changes in the order: it comes after the last events it is linked to, and nothing else is new.
-- A point is published if it is the cell's latest release or comes before it: that is what an acquire gets to know.
use Rattle.std.proofs.Common.{◌≡◌, ℕ, ◌<◌, ◌⊎◌, List, sym, refl, ap, ◌∙◌, subst, inl, inr, arith}
use Rattle.std.proofs.lemmas.Bool.{cases_eq}
use Rattle.model.specs.declared.event.Action.{Action}
use Rattle.model.specs.declared.event.Event.{Event}
use Rattle.order.specs.Order.{At, next, more, By, WriteOf, AcquireOf, ReleaseOf, Latest, Point, initial_write, initial_release, event}
use Rattle.order.specs.Order.{LatestRelease, some_release, no_release, Directly, initial, same_board, acquire, Before, link, chain, IsWrite, Known}
use Rattle.order.specs.Laws.{Within}
use Rattle.order.proofs.History.{none-not-some, by-events, at-within, at_old, at_new, at-inv, latest-up, latest-old, latest-new, latest-end, latest-inv, release_up, release_old, release_end, release_inv}

-- x is y or comes before it
abbrev pub UpTo : List Event → ℕ → Point → Point → Type 0
UpTo h c x y = (x ≡ y) ⊎ Before h c x y

pub record Published (h : List Event) (c : ℕ) (x : Point) : Type 0 where
  pub latest : Point
  pub is_latest : LatestRelease h c (next h) latest
  pub up_to : UpTo h c x latest

-- ── points of a history ──

pub new-not-within : (h : List Event) {x : Point} → x ≡ event (next h) → Within h x → ⊥
new-not-within h p w = let q : next h < next h = subst (Within h) p w in omega arith

pub latest-within : {h : List Event} {Kind : Event → Type 0} {n m : ℕ} → Latest h Kind n m → Within h (event m)
latest-within {h} {Kind} {n} {m} l = (at-within h m l.event l.stands).1

pub release-within : {h : List Event} {c n : ℕ} {x : Point} → LatestRelease h c n x → Within h x
release-within (some_release l) = latest-within l
release-within (no_release none) = tt

pub directly-within : {h : List Event} {c : ℕ} {x y : Point} → Directly h c x y → Within h x × Within h y
directly-within initial = (tt, tt)
directly-within {h} (same_board {m} {n} b e a k l) = (latest-within l, (at-within h n e a).1)
directly-within {h} (acquire {x} {n} e a k l) = (release-within l, (at-within h n e a).1)

pub before-within : {h : List Event} {c : ℕ} {x y : Point} → Before h c x y → Within h x × Within h y
before-within (link d) = directly-within d
before-within (chain u d) = ((before-within u).0, (directly-within d).1)

pub up-to-within : {h : List Event} {c : ℕ} {x y : Point} → UpTo h c x y → Within h y → Within h x
up-to-within {h} (inl p) w = subst (Within h) (sym p) w
up-to-within (inr u) w = (before-within u).0

pub known-within : {h : List Event} {c b : ℕ} {x : Point} → Known h c b x → Within h x
known-within k = up-to-within k.up_to (latest-within k.is_latest)

pub published-within : {h : List Event} {c : ℕ} {x : Point} → Published h c x → Within h x
published-within k = up-to-within k.up_to (release-within k.is_latest)

-- ── transitivity ──

pub before-trans : {h : List Event} {c : ℕ} {x y z : Point} → Before h c x y → Before h c y z → Before h c x z
before-trans u (link d) = chain u d
before-trans u (chain v d) = chain (before-trans u v) d

pub before-up-to : {h : List Event} {c : ℕ} {x y z : Point} → Before h c x y → UpTo h c y z → Before h c x z
before-up-to {h} {c} {x} u (inl p) = subst (Before h c x) p u
before-up-to u (inr v) = before-trans u v

pub up-to-before : {h : List Event} {c : ℕ} {x y z : Point} → UpTo h c x y → Before h c y z → Before h c x z
up-to-before {h} {c} {x} {y} {z} (inl p) v = subst (λ (w : Point). Before h c w z) (sym p) v
up-to-before (inr u) v = before-trans u v

pub known-before : {h : List Event} {c b : ℕ} {x y : Point} → Before h c x y → Known h c b y → Known h c b x
known-before u k = record { latest = k.latest; is_latest = k.is_latest; up_to = inr (before-up-to u k.up_to) }

-- ── one more event ──

pub is-by : (c b : ℕ) (e : Event) → By c b e ⊎ (By c b e → ⊥)
is-by c b e = go (cases_eq e.cell c) (cases_eq e.board b)
  where
    go : (e.cell ≡ c) ⊎ (e.cell ≡ c → ⊥) → (e.board ≡ b) ⊎ (e.board ≡ b → ⊥) → By c b e ⊎ (By c b e → ⊥)
    go (inl p) (inl q) = inl (p, q)
    go (inl p) (inr n) = inr (λ y. n y.1)
    go (inr n) q = inr (λ y. n y.0)

-- What comes before the new event, once it is there: all that its board knows and, at an acquire, all that is published.
abbrev pub From : List Event → Event → ℕ → Point → Type 0
From h g c x = Known h c g.board x ⊎ ((g.action ≡ Action.Acquire) × Published h c x)

pub record Since (h : List Event) (g : Event) (c : ℕ) (x y : Point) : Type 0 where
  pub new : y ≡ event (next h)
  pub cell : g.cell ≡ c
  pub from : From h g c x

module _ (h : List Event) (g : Event) (c : ℕ) where
  -- the links to the new event, and the others
  directly-inv : {x y : Point} → Directly (more h g) c x y → Directly h c x y ⊎ (((z : Point) → UpTo h c z x → Since h g c z y) × Within h x)
  directly-inv initial = inl initial
  directly-inv (same_board {m} {n} b e a k l) = go (at-inv h g n e a)
    where
      go : At h n e ⊎ ((n ≡ next h) × (g ≡ e)) → Directly h c (event m) (event n) ⊎ (((z : Point) → UpTo h c z (event m) → Since h g c z (event n)) × Within h (event m))
      go (inl a') = inl (same_board b e a' k (latest-old h g (By c b) n m (let w = at-within h n e a' in omega arith) l))
      go (inr (p, q)) = inr (λ z u. record { new = ap event p; cell = ap (λ (f : Event). f.cell) q ∙ k.0; from = inl (record { latest = m; is_latest = last; up_to = u }) }, latest-within last)
        where
          same : b ≡ g.board
          same = sym (ap (λ (f : Event). f.board) q ∙ k.1)

          last : Latest h (By c g.board) (next h) m
          last = subst (λ (i : ℕ). Latest h (By c i) (next h) m) same (latest-old h g (By c b) (next h) m (omega arith) (subst (λ (i : ℕ). Latest (more h g) (By c b) i m) p l))
  directly-inv (acquire {x} {n} e a k l) = go (at-inv h g n e a)
    where
      go : At h n e ⊎ ((n ≡ next h) × (g ≡ e)) → Directly h c x (event n) ⊎ (((z : Point) → UpTo h c z x → Since h g c z (event n)) × Within h x)
      go (inl a') = inl (acquire e a' k (release_old h g c (let w = at-within h n e a' in omega arith) l))
      go (inr (p, q)) = inr (λ z u. record { new = ap event p; cell = ap (λ (f : Event). f.cell) q ∙ k.0; from = inr (ap (λ (f : Event). f.action) q ∙ k.1, record { latest = x; is_latest = last; up_to = u }) }, release-within last)
        where
          last : LatestRelease h c (next h) x
          last = release_old h g c (omega arith) (subst (λ (i : ℕ). LatestRelease (more h g) c i x) p l)

  directly-up : {x y : Point} → Directly h c x y → Directly (more h g) c x y
  directly-up initial = initial
  directly-up (same_board {m} {n} b e a k l) = same_board b e (at_old h g n e a) k (latest-up h g (By c b) n m (let w = at-within h n e a in omega arith) l)
  directly-up (acquire {x} {n} e a k l) = acquire e (at_old h g n e a) k (release_up h g c (let w = at-within h n e a in omega arith) l)

  pub before-up : {x y : Point} → Before h c x y → Before (more h g) c x y
  before-up (link d) = link (directly-up d)
  before-up (chain u d) = chain (before-up u) (directly-up d)

  pub up-to-up : {x y : Point} → UpTo h c x y → UpTo (more h g) c x y
  up-to-up (inl p) = inl p
  up-to-up (inr u) = inr (before-up u)

  pub before-inv : {x y : Point} → Before (more h g) c x y → Before h c x y ⊎ Since h g c x y
  before-inv {x} {y} (link d) = go (directly-inv d)
    where
      go : Directly h c x y ⊎ (((z : Point) → UpTo h c z x → Since h g c z y) × Within h x) → Before h c x y ⊎ Since h g c x y
      go (inl e) = inl (link e)
      go (inr (since, w)) = inr (since x (inl refl))
  before-inv {x} (chain {y} {z} u d) = go (before-inv u) (directly-inv d)
    where
      go : Before h c x y ⊎ Since h g c x y → Directly h c y z ⊎ (((i : Point) → UpTo h c i y → Since h g c i z) × Within h y) → Before h c x z ⊎ Since h g c x z
      go (inl v) (inl e) = inl (chain v e)
      go (inl v) (inr (since, w)) = inr (since x (inr v))
      go (inr s) (inl e) = absurd (new-not-within h s.new (directly-within e).0)
      go (inr s) (inr (since, w)) = absurd (new-not-within h s.new w)

  -- among the older points nothing is new
  pub before-old : {x y : Point} → Within h y → Before (more h g) c x y → Before h c x y
  before-old {x} {y} w u = go (before-inv u)
    where
      go : Before h c x y ⊎ Since h g c x y → Before h c x y
      go (inl v) = v
      go (inr s) = absurd (new-not-within h s.new w)

  from-within : {x : Point} → From h g c x → Within h x
  from-within (inl k) = known-within k
  from-within (inr (a, k)) = published-within k

  -- and nothing comes after the new event
  pub new-last : {y : Point} → Before (more h g) c (event (next h)) y → ⊥
  new-last {y} u = go (before-inv u)
    where
      go : Before h c (event (next h)) y ⊎ Since h g c (event (next h)) y → ⊥
      go (inl v) = new-not-within h refl (before-within v).0
      go (inr s) = new-not-within h refl (from-within s.from)

  -- what comes before it
  pub before-new : {x : Point} → g.cell ≡ c → Known h c g.board x → Before (more h g) c x (event (next h))
  before-new p k = up-to-before (up-to-up k.up_to) (link (same_board g.board g (at_new h g) (p, refl) (latest-up h g (By c g.board) (next h) k.latest (omega arith) k.is_latest)))

  pub before-acquire : {x : Point} → AcquireOf c g → Published h c x → Before (more h g) c x (event (next h))
  before-acquire a k = up-to-before (up-to-up k.up_to) (link (acquire g (at_new h g) a (release_up h g c (omega arith) k.is_latest)))

  -- ── what a board knows ──

  pub known-inv : {b : ℕ} {x : Point} → Known (more h g) c b x → (By c b g × ((x ≡ event (next h)) ⊎ From h g c x)) ⊎ ((By c b g → ⊥) × Known h c b x)
  known-inv {b} {x} k = go k.latest (latest-inv h g (By c b) k.latest k.is_latest) k.up_to
    where
      go : (m : ℕ) → (By c b g × (m ≡ next h)) ⊎ ((By c b g → ⊥) × Latest h (By c b) (next h) m) → UpTo (more h g) c x (event m) → (By c b g × ((x ≡ event (next h)) ⊎ From h g c x)) ⊎ ((By c b g → ⊥) × Known h c b x)
      go m (inl (y, p)) (inl q) = inl (y, inl (q ∙ ap event p))
      go m (inl (y, p)) (inr u) = on (before-inv u)
        where
          on : Before h c x (event m) ⊎ Since h g c x (event m) → (By c b g × ((x ≡ event (next h)) ⊎ From h g c x)) ⊎ ((By c b g → ⊥) × Known h c b x)
          on (inl v) = absurd (new-not-within h (ap event p) (before-within v).1)
          on (inr s) = inl (y, inr s.from)
      go m (inr (n, l)) (inl q) = inr (n, record { latest = m; is_latest = l; up_to = inl q })
      go m (inr (n, l)) (inr u) = inr (n, record { latest = m; is_latest = l; up_to = inr (before-old (latest-within l) u) })

  pub known-end : {b : ℕ} {x : Point} → (By c b g → ⊥) → Known h c b x → Known (more h g) c b x
  known-end {b} other k = record { latest = k.latest; is_latest = latest-end h g (By c b) k.latest other k.is_latest; up_to = up-to-up k.up_to }

  pub known-new : {b : ℕ} {x : Point} → By c b g → UpTo (more h g) c x (event (next h)) → Known (more h g) c b x
  known-new {b} y u = record { latest = next h; is_latest = latest-new h g (By c b) y; up_to = u }

  pub known_by : {b : ℕ} {x : Point} → By c b g → Known h c b x → Known h c g.board x
  known_by {b} {x} y k = subst (λ (i : ℕ). Known h c i x) (sym y.1) k

  -- what a board knows it goes on knowing
  pub known_up : {b : ℕ} {x : Point} → By c b g → Known h c b x → Known (more h g) c b x
  known_up y k = known-new y (inr (before-new y.0 (known_by y k)))

  pub known_on : {b : ℕ} {x : Point} → Known h c b x → Known (more h g) c b x
  known_on {b} {x} k = go (is-by c b g)
    where
      go : By c b g ⊎ (By c b g → ⊥) → Known (more h g) c b x
      go (inl y) = known_up y k
      go (inr n) = known-end n k

  -- ── what is published ──

  pub published-inv : {x : Point} → Published (more h g) c x → (ReleaseOf c g × ((x ≡ event (next h)) ⊎ From h g c x)) ⊎ ((ReleaseOf c g → ⊥) × Published h c x)
  published-inv {x} k = go k.latest (release_inv h g c k.is_latest) k.up_to
    where
      go : (z : Point) → (ReleaseOf c g × (z ≡ event (next h))) ⊎ ((ReleaseOf c g → ⊥) × LatestRelease h c (next h) z) → UpTo (more h g) c x z → (ReleaseOf c g × ((x ≡ event (next h)) ⊎ From h g c x)) ⊎ ((ReleaseOf c g → ⊥) × Published h c x)
      go z (inl (r, p)) (inl q) = inl (r, inl (q ∙ p))
      go z (inl (r, p)) (inr u) = on (before-inv u)
        where
          on : Before h c x z ⊎ Since h g c x z → (ReleaseOf c g × ((x ≡ event (next h)) ⊎ From h g c x)) ⊎ ((ReleaseOf c g → ⊥) × Published h c x)
          on (inl v) = absurd (new-not-within h p (before-within v).1)
          on (inr s) = inl (r, inr s.from)
      go z (inr (n, l)) (inl q) = inr (n, record { latest = z; is_latest = l; up_to = inl q })
      go z (inr (n, l)) (inr u) = inr (n, record { latest = z; is_latest = l; up_to = inr (before-old (release-within l) u) })

  pub published-end : {x : Point} → (ReleaseOf c g → ⊥) → Published h c x → Published (more h g) c x
  published-end other k = record { latest = k.latest; is_latest = release_end h g c other k.is_latest; up_to = up-to-up k.up_to }

  pub published-new : {x : Point} → ReleaseOf c g → UpTo (more h g) c x (event (next h)) → Published (more h g) c x
  published-new r u = record { latest = event (next h); is_latest = some_release (latest-new h g (ReleaseOf c) r); up_to = u }

  -- ── writes ──

  pub write_up : (y : Point) → IsWrite h c y → IsWrite (more h g) c y
  write_up initial_write w = w
  write_up initial_release w = w
  write_up (event n) w = (w.0, w.1, at_old h g n w.0 w.2, w.3)

  pub write-within : (y : Point) → IsWrite h c y → Within h y
  write-within initial_write w = tt
  write-within initial_release w = tt
  write-within (event n) w = (at-within h n w.0 w.2).1

  pub write-inv : (y : Point) → IsWrite (more h g) c y → IsWrite h c y ⊎ ((y ≡ event (next h)) × ((w : ℕ) × WriteOf c w g))
  write-inv initial_write w = inl w
  write-inv initial_release w = inl w
  write-inv (event n) w = go (at-inv h g n w.0 w.2)
    where
      go : At h n w.0 ⊎ ((n ≡ next h) × (g ≡ w.0)) → IsWrite h c (event n) ⊎ ((event n ≡ event (next h)) × ((v : ℕ) × WriteOf c v g))
      go (inl a) = inl (w.0, w.1, a, w.3)
      go (inr (p, q)) = inr (ap event p, (w.1, subst (WriteOf c w.1) (sym q) w.3))

  pub write-old : (y : Point) → Within h y → IsWrite (more h g) c y → IsWrite h c y
  write-old y i w = go (write-inv y w)
    where
      go : IsWrite h c y ⊎ ((y ≡ event (next h)) × ((v : ℕ) × WriteOf c v g)) → IsWrite h c y
      go (inl r) = r
      go (inr (p, q)) = absurd (new-not-within h p i)

-- a board knows each event of its own
pub known-own : (h : List Event) (c b n : ℕ) (e : Event) → At h n e → By c b e → Known h c b (event n)
known-own h c b = by-events (λ h. (n : ℕ) (e : Event) → At h n e → By c b e → Known h c b (event n)) (λ n e a y. absurd (none-not-some a)) one h
  where
    one : (h : List Event) (g : Event) → ((n : ℕ) (e : Event) → At h n e → By c b e → Known h c b (event n)) → (n : ℕ) (e : Event) → At (more h g) n e → By c b e → Known (more h g) c b (event n)
    one h g known n e a y = go (at-inv h g n e a)
      where
        go : At h n e ⊎ ((n ≡ next h) × (g ≡ e)) → Known (more h g) c b (event n)
        go (inl o) = known_on h g c (known n e o y)
        go (inr (p, q)) = known-new h g c (subst (By c b) (sym q) y) (inl (ap event p))

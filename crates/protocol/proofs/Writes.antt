-- Writes that only their own board knows of, and what stays readable, as one more event comes.
use Rattle.std.proofs.Common.{◌≡◌, ℕ, ◌⊎◌, List, sym, refl, ◌∙◌, subst, inl, inr, arith}
use Rattle.model.specs.declared.event.Action.{Action}
use Rattle.model.specs.declared.event.Event.{Event}
use Rattle.order.specs.Order.{At, next, more, By, WriteOf, ReleaseOf, Point, initial_write, initial_release, event, Before, IsWrite, Brings, Known, Readable, Legal}
use Rattle.order.proofs.History.{write-not-release, at-within, at_old, at_new}
use Rattle.order.proofs.Growth.{Published, From, before-up-to, known-before, known-own, known-within, published-within, new-not-within, new-last, known-inv, published-inv, write_up, is-by}
use Rattle.order.proofs.Laws.{before-forward}
use Rattle.order.proofs.Sight.{Over, over-known, over-either, Same, over_same, same_else, same_release, same_acquire}

-- The event n is a write of the word v by the board p; no other board knows of it, and no release has published it.
pub record Own (h : List Event) (c p n v : ℕ) : Type 0 where
  pub written : Event
  pub stands : At h n written
  pub write : WriteOf c v written
  pub board : written.board ≡ p
  pub private : (b : ℕ) → Known h c b (event n) → b ≡ p
  pub hidden : Published h c (event n) → ⊥

pub published-before : {h : List Event} {c : ℕ} {x y : Point} → Before h c x y → Published h c y → Published h c x
published-before u k = record { latest = k.latest; is_latest = k.is_latest; up_to = inr (before-up-to u k.up_to) }

-- ── what is written ──

pub brings-write : (h : List Event) (start c w : ℕ) (x : Point) → Brings h start c x w → IsWrite h c x
brings-write h start c w initial_write b = tt
brings-write h start c w initial_release b = b
brings-write h start c w (event n) (e, s, is) = (e, w, s, is)

pub own-brings : {h : List Event} {c p n v : ℕ} (start : ℕ) → Own h c p n v → Brings h start c (event n) v
own-brings start o = (o.written, o.stands, o.write)

pub own-legal : {h : List Event} {c p n v : ℕ} (start : ℕ) → Own h c p n v → Readable h c p (event n) → Legal h start c p v
own-legal {n = n} start o r = record { write = event n; readable = r; brings = own-brings start o }

-- ── what comes after an own write ──

-- Every write after it is by the same board, and as much its own.
pub own-later : {h : List Event} {c p n v : ℕ} → Own h c p n v → (y : Point) → IsWrite h c y → Before h c (event n) y → (m : ℕ) × (w : ℕ) × (y ≡ event m) × Own h c p m w
own-later o initial_write w u = let z = before-forward u in absurd (omega arith)
own-later o initial_release w u = absurd w
own-later {h} {c} o (event m) (e, w, s, is) u = (
  m,
  w,
  refl,
  record {
    written = e;
    stands = s;
    write = is;
    board = o.private e.board (known-before u (known-own h c e.board m e s (is.0, refl)));
    private = λ b k. o.private b (known-before u k);
    hidden = λ k. o.hidden (published-before u k);
  },
)

-- if it is readable for its board, no write comes after it
pub own-newest : {h : List Event} {c p n v : ℕ} → Own h c p n v → Readable h c p (event n) → (y : Point) → IsWrite h c y → Before h c (event n) y → ⊥
own-newest {h} {c} {p} o r y w u = go (own-later o y w u)
  where
    go : (m : ℕ) × (i : ℕ) × (y ≡ event m) × Own h c p m i → ⊥
    go (m, i, q, l) = r.current (record { by = y; write = w; later = u; known = subst (Known h c p) (sym q) (known-own h c p m l.written l.stands (l.write.0, l.board)) })

-- ── one more event ──

module _ (h : List Event) (g : Event) (c : ℕ) where
  not_new : {n : ℕ} {e : Event} → At h n e → event n ≡ event (next h) → ⊥
  not_new {n} {e} a q = new-not-within h q (at-within h n e a).1

  -- an own write stays so until its board releases
  pub own-more : {p n v : ℕ} → (By c p g → g.action ≡ Action.Release → ⊥) → Own h c p n v → Own (more h g) c p n v
  own-more {p} {n} keep o = record { written = o.written; stands = at_old h g n o.written o.stands; write = o.write; board = o.board; private = λ b k. private b (known-inv h g c k); hidden = λ k. hidden (published-inv h g c k) }
    where
      from : From h g c (event n) → g.board ≡ p
      from (inl k) = o.private g.board k
      from (inr (a, k)) = absurd (o.hidden k)

      private : (b : ℕ) → (By c b g × ((event n ≡ event (next h)) ⊎ From h g c (event n))) ⊎ ((By c b g → ⊥) × Known h c b (event n)) → b ≡ p
      private b (inl (y, inl q)) = absurd (not_new o.stands q)
      private b (inl (y, inr f)) = sym y.1 ∙ from f
      private b (inr (n, k)) = o.private b k

      hidden : (ReleaseOf c g × ((event n ≡ event (next h)) ⊎ From h g c (event n))) ⊎ ((ReleaseOf c g → ⊥) × Published h c (event n)) → ⊥
      hidden (inl (r, inl q)) = not_new o.stands q
      hidden (inl (r, inr f)) = keep (r.0, from f) r.1
      hidden (inr (n, k)) = o.hidden k

  -- the new event, if it is a write
  pub own_new : {p v : ℕ} → WriteOf c v g → g.board ≡ p → Own (more h g) c p (next h) v
  own_new {p} is by = record { written = g; stands = at_new h g; write = is; board = by; private = λ b k. private b (known-inv h g c k); hidden = λ k. hidden (published-inv h g c k) }
    where
      private : (b : ℕ) → (By c b g × ((event (next h) ≡ event (next h)) ⊎ From h g c (event (next h)))) ⊎ ((By c b g → ⊥) × Known h c b (event (next h))) → b ≡ p
      private b (inl (y, k)) = sym y.1 ∙ by
      private b (inr (n, k)) = absurd (new-not-within h refl (known-within k))

      hidden : (ReleaseOf c g × ((event (next h) ≡ event (next h)) ⊎ From h g c (event (next h)))) ⊎ ((ReleaseOf c g → ⊥) × Published h c (event (next h))) → ⊥
      hidden (inl (r, k)) = write-not-release is.1 r.1
      hidden (inr (n, k)) = new-not-within h refl (published-within k)

  pub readable-new : {b v : ℕ} → WriteOf c v g → Readable (more h g) c b (event (next h))
  readable-new {v = v} is = record { write = (g, v, at_new h g, is); current = λ o. new-last h g c o.later }

  -- what is not overwritten in the sight V is readable for the board whose sight that is after the event
  in-sight : {V : Point → Type 0} {b : ℕ} {x : Point} → Same h g c V (Known (more h g) c b) → (Over h c V x → ⊥) → IsWrite h c x → Readable (more h g) c b x
  in-sight {x = x} s current w = record { write = write_up h g c x w; current = λ o. current ((over_same h g c s).0 (over-known.1 o)) }

  -- what a board may read stays readable for it, until it writes or acquires
  pub readable-more : {b : ℕ} {x : Point} → (By c b g → g.action ≡ Action.Release) → Readable h c b x → Readable (more h g) c b x
  readable-more {b} {x} keep r = in-sight (go (is-by c b g)) (λ o. r.current (over-known.0 o)) r.write
    where
      go : By c b g ⊎ (By c b g → ⊥) → Same h g c (Known h c b) (Known (more h g) c b)
      go (inl y) = same_release h g c b y (keep y)
      go (inr n) = same_else h g c b n

  -- and what is not published, also when it acquires
  pub readable-acquire : {b : ℕ} {x : Point} → By c b g → g.action ≡ Action.Acquire → (Published h c x → ⊥) → Readable h c b x → Readable (more h g) c b x
  readable-acquire {b} {x} y a hidden r = in-sight (same_acquire h g c b y a) (λ o. none ((over-either (Known h c b) (Published h c)).0 o)) r.write
    where
      none : Over h c (Known h c b) x ⊎ Over h c (Published h c) x → ⊥
      none (inl o) = r.current (over-known.0 o)
      none (inr o) = hidden (published-before o.later o.seen)

  pub brings-up : (start w : ℕ) (x : Point) → Brings h start c x w → Brings (more h g) start c x w
  brings-up start w initial_write b = b
  brings-up start w initial_release b = b
  brings-up start w (event n) (e, s, is) = (e, at_old h g n e s, is)

  pub legal-more : {start b w : ℕ} → (By c b g → g.action ≡ Action.Release) → Legal h start c b w → Legal (more h g) start c b w
  legal-more {start} {b} {w} keep l = record { write = l.write; readable = readable-more keep l.readable; brings = brings-up start w l.write l.brings }

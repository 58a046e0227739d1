-- The laws of the order of events.
use Rattle.std.proofs.Common.{◌≡◌, ℕ, ◌<◌, ◌⊎◌, ◌↔◌, List, ◌++◌, sym, refl, ap, ◌∙◌, subst, inl, inr, arith}
use Rattle.std.proofs.lemmas.Bool.{cases_eq}
use Rattle.model.specs.declared.event.Event.{Event}
use Rattle.order.specs.Order.{At, more, By, WriteOf, Point, initial_write, initial_release, event}
use Rattle.order.specs.Order.{some_release, no_release, Directly, initial, same_board, acquire, Before, link, chain, Overwritten, Readable}
use Rattle.order.specs.Laws.{place, Within, Handed, LawsOfOrder}
use Rattle.order.proofs.History.{write-not-release, event-same, at-within, at_same, at_new, next_more, along}
use Rattle.order.proofs.Growth.{UpTo, before-trans, before-up, before-old, before-up-to, new-last, known_on, known-own, write_up}
use Rattle.order.proofs.Owners.{turns}

-- ── numbers only rise ──

directly-forward : {h : List Event} {c : ℕ} {x y : Point} → Directly h c x y → place x < place y
directly-forward initial = omega arith
directly-forward (same_board b e a k l) = let p = l.below in omega arith
directly-forward {h} (acquire {n = n} e a k (some_release l)) = let p = l.below in omega arith
directly-forward {h} (acquire {n = n} e a k (no_release none)) = let p = (at-within h n e a).0 in omega arith

pub before-forward : {h : List Event} {c : ℕ} {x y : Point} → Before h c x y → place x < place y
before-forward (link d) = directly-forward d
before-forward (chain u d) = let p = before-forward u in let q = directly-forward d in omega arith

-- ── older points ──

within-up : (h : List Event) (g : Event) (y : Point) → Within h y → Within (more h g) y
within-up h g initial_write w = w
within-up h g initial_release w = w
within-up h g (event n) w = omega (arith, next_more h g)

pub settled : (h later : List Event) (c : ℕ) (x y : Point) → Within h y → Before (h ++ later) c x y ↔ Before h c x y
settled h later c x y w = ((along (λ i. (Before i c x y → Before h c x y) × Within i y) one h later (λ u. u, w)).0, along (λ i. Before i c x y) (λ i g. before-up i g c) h later)
  where
    one : (i : List Event) (g : Event) → (Before i c x y → Before h c x y) × Within i y → (Before (more i g) c x y → Before h c x y) × Within (more i g) y
    one i g (f, v) = (λ u. f (before-old i g c v u), within-up i g y v)

pub for_good : (h later : List Event) (c b : ℕ) (x : Point) → Overwritten h c b x → Overwritten (h ++ later) c b x
for_good h later c b x = along (λ i. Overwritten i c b x) (λ i g o. record { by = o.by; write = write_up i g c o.by o.write; later = before-up i g c o.later; known = known_on i g c o.known }) h later

-- ── from one board to another ──

module _ (h : List Event) (c w n : ℕ) (e : Event) (stands : At h n e) (write : WriteOf c w e) where
  -- y is an event of the write's board, or the write was handed on up to y
  abbrev Reached : Point → Type 0
  Reached y = ((m : ℕ) × (f : Event) × (y ≡ event m) × At h m f × (f.board ≡ e.board)) ⊎ ((m : ℕ) × UpTo h c (event m) y × Handed h c e.board n m)

  -- one link on from an event of the write's board
  step : {x y : Point} → UpTo h c (event n) x → (m : ℕ) (f : Event) → x ≡ event m → At h m f → f.board ≡ e.board → Directly h c x y → Reached y
  step u m f p a q initial = cc
  step u m f p a q (same_board {n = i} b d s by l) = inl (i, d, refl, s, by.1 ∙ sym l.kind.1 ∙ ap (λ (j : Event). j.board) same ∙ q)
    where
      same : l.event ≡ f
      same = at_same h m l.event f (subst (λ (j : ℕ). At h j l.event) (event-same p) l.stands) a
  step u m f p a q (acquire {n = i} d s by (some_release {m = k} l)) = go (cases_eq d.board e.board)
    where
      same : l.event ≡ f
      same = at_same h m l.event f (subst (λ (j : ℕ). At h j l.event) (event-same p) l.stands) a

      -- the write is no release, so it comes before this one
      after : UpTo h c (event n) (event k) → Before h c (event n) (event k)
      after (inl r) = absurd (write-not-release write.1 (ap (λ (j : Event). j.action) (at_same h n e l.event stands (subst (λ (j : ℕ). At h j l.event) (sym (event-same r)) l.stands)) ∙ l.kind.1))
      after (inr v) = v

      taken : Before h c (event k) (event i)
      taken = link (acquire d s by (some_release l))

      go : (d.board ≡ e.board) ⊎ (d.board ≡ e.board → ⊥) → Reached (event i)
      go (inl r) = inl (i, d, refl, s, r)
      go (inr r) = inr (
        i,
        inl refl,
        record {
          release = k;
          released = l.event;
          release_stands = l.stands;
          is_release = l.kind;
          by_first = ap (λ (j : Event). j.board) same ∙ q;
          after = (let z = before-forward (after u) in omega arith, after u);
          acquire = i;
          acquired = d;
          acquire_stands = s;
          is_acquire = by;
          by_other = r;
          later = (l.below, taken);
          up_to = inl refl;
        },
      )
  step u m f p a q (acquire d s by (no_release none)) = cc

  reached : {y : Point} → Before h c (event n) y → Reached y
  reached (link d) = step (inl refl) n e refl stands refl d
  reached (chain {y} {z} u d) = go (reached u)
    where
      on : {m : ℕ} → UpTo h c (event m) y → UpTo h c (event m) z
      on {m} (inl p) = inr (link (subst (λ (i : Point). Directly h c i z) (sym p) d))
      on (inr v) = inr (chain v d)

      go : Reached y → Reached z
      go (inl (m, f, p, a, q)) = step (inr u) m f p a q d
      go (inr (m, v, r)) = inr (m, on v, r)

  pub handed : (m : ℕ) (f : Event) → At h m f → (f.board ≡ e.board → ⊥) → Before h c (event n) (event m) → Handed h c e.board n m
  handed m f a other u = go (reached u)
    where
      far : (i : ℕ) → Handed h c e.board n i → UpTo h c (event i) (event m) → Handed h c e.board n m
      far i r v = record {
        release = r.release;
        released = r.released;
        release_stands = r.release_stands;
        is_release = r.is_release;
        by_first = r.by_first;
        after = r.after;
        acquire = r.acquire;
        acquired = r.acquired;
        acquire_stands = r.acquire_stands;
        is_acquire = r.is_acquire;
        by_other = r.by_other;
        later = r.later;
        up_to = on r.up_to v;
      }
        where
          on : (r.acquire ≡ i) ⊎ Before h c (event r.acquire) (event i) → UpTo h c (event i) (event m) → (r.acquire ≡ m) ⊎ Before h c (event r.acquire) (event m)
          on (inl p) (inl q) = inl (p ∙ event-same q)
          on (inl p) (inr k) = inr (subst (λ (j : ℕ). Before h c (event j) (event m)) (sym p) k)
          on (inr k) q = inr (before-up-to k q)

      go : Reached (event m) → Handed h c e.board n m
      go (inl (i, d, p, s, q)) = absurd (other (ap (λ (j : Event). j.board) (at_same h m f d a (subst (λ (j : ℕ). At h j d) (sym (event-same p)) s)) ∙ q))
      go (inr (i, v, r)) = far i r v

-- ── a board's own write ──

pub gone : (h : List Event) (c b w n : ℕ) (e : Event) (x : Point) → At h n e → By c b e → WriteOf c w e → Before h c x (event n) → Readable h c b x → ⊥
gone h c b w n e x a mine write u r = r.current (record { by = event n; write = (e, w, a, write); later = u; known = known-own h c b n e a mine })

pub laws-of-order : LawsOfOrder
unfolding LawsOfOrder
laws-of-order = record {
  transitive = λ h c x y z. before-trans;
  forward = λ h c x y. before-forward;
  settled = settled;
  first_release = λ h c n e d a r. (turns c h d).first_before n e a r;
  one_chain = λ h c m n e f d a r s q l. (turns c h d).chained m n e f a r s q l;
  handed = λ h c w n m e f a write s other u. handed h c w n e a write m f s other u;
  own_write = λ h c b w e mine write. record { write = (e, w, at_new h e, write); current = λ o. new-last h e c o.later };
  gone = gone;
  for_good = for_good;
  silent = λ h c b x none write. record { write = write; current = λ o. let l = o.known.is_latest in none o.known.latest l.event l.stands l.kind };
}

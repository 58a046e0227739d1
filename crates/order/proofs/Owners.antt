-- Who owns a cell, as one more event comes; so the computed owner is the owner, and in a history that keeps to ownership all
-- releases of a cell are in one chain.
use Rattle.std.proofs.Common.{◌≡◌, ℕ, zero, suc, ◌<◌, ◌≤◌, true, false, eqb, ◌⊎◌, ◌↔◌, List, [], ◌∷◌, length, get_or, Some, None, Option, sym, refl, ap, ◌∙◌, subst, inl, inr, arith}
use Rattle.std.specs.List.{HoldsAt}
use Rattle.std.proofs.lemmas.Bool.{true≢false, cases_Bool, and_parts, and_from, eqb-true, eqb-false, cond-true, cond-false, eq-eqb, ne_eqb}
use Rattle.model.specs.declared.event.Action.{Action}
use Rattle.model.specs.declared.event.Event.{Event}
use Rattle.order.specs.Order.{At, next, more, WriteOf, AcquireOf, ReleaseOf, Latest, Point, initial_release, event, no_release, Before, Known, Owns, Disciplined}
use Rattle.order.specs.Test.{owner_by, owner_after, owner_from, owner_of, changes_by, changes_owner, OwnerDecided}
use Rattle.order.proofs.History.{none-not-some, nothing-not-some, some_same, write-not-release, write-not-acquire, acquire-not-release, at-within, at_same, at_old, at_new, at-inv, next_more, by-events, none_old, none-up, none_end, latest-up, latest-old, latest-new, latest-end, latest-inv}
use Rattle.order.proofs.Growth.{Published, From, known_on, known-new, before-up, before-new, before-acquire, published-inv, published-end, published-new}

-- what an event is to the cell c: of another cell, or a write, an acquire or a release of it
pub data Kind (c : ℕ) (e : Event) : Type 0 where
  elsewhere : (e.cell ≡ c → ⊥) → Kind c e
  writes : (w : ℕ) → WriteOf c w e → Kind c e
  acquires : AcquireOf c e → Kind c e
  releases : ReleaseOf c e → Kind c e

pub kind : (c : ℕ) (e : Event) → Kind c e
kind c e = go (cases_Bool (eqb e.cell c))
  where
    on : e.cell ≡ c → (a : Action) → e.action ≡ a → Kind c e
    on p (Action.Write w) a = writes w (p, a)
    on p Action.Acquire a = acquires (p, a)
    on p Action.Release a = releases (p, a)

    go : (eqb e.cell c ≡ true) ⊎ (eqb e.cell c ≡ false) → Kind c e
    go (inl t) = on (eqb-true e.cell c t) e.action refl
    go (inr t) = elsewhere (eqb-false e.cell c t)

module _ (h : List Event) (g : Event) where
  -- below the new event
  pub owns-up : (c b n : ℕ) → n ≤ next h → Owns h c b n → Owns (more h g) c b n
  unfolding latest-up
  owns-up c b n low o = record { acquired = o.acquired; latest = latest-up h g (AcquireOf c) n o.acquired low o.latest; board = o.board; kept = none-up h g (ReleaseOf c) o.acquired n low o.kept }

  pub owns-old : (c b n : ℕ) → n ≤ next h → Owns (more h g) c b n → Owns h c b n
  owns-old c b n low o = record { acquired = o.acquired; latest = older; board = ap (λ (e : Event). e.board) same ∙ o.board; kept = none_old h g (ReleaseOf c) o.acquired n o.kept }
    where
      older : Latest h (AcquireOf c) n o.acquired
      older = latest-old h g (AcquireOf c) n o.acquired low o.latest

      same : older.event ≡ o.latest.event
      same = at_same (more h g) o.acquired older.event o.latest.event (at_old h g o.acquired older.event older.stands) o.latest.stands

  -- after it
  module _ (c b : ℕ) where
    pub owns-end : (AcquireOf c g → ⊥) → (ReleaseOf c g → ⊥) → Owns h c b (next h) → Owns (more h g) c b (next (more h g))
    unfolding latest-end
    owns-end a r o = record { acquired = o.acquired; latest = latest-end h g (AcquireOf c) o.acquired a o.latest; board = o.board; kept = none_end h g (ReleaseOf c) o.acquired r o.kept }

    pub owns-new : AcquireOf c g → g.board ≡ b → Owns (more h g) c b (next (more h g))
    unfolding latest-new
    owns-new a p = record { acquired = next h; latest = latest-new h g (AcquireOf c) a; board = p; kept = λ k e l u s r. omega (arith, next_more h g) }

    -- the owner after it: whoever just acquired; or the owner before it, and then it was no release
    pub owns-inv : Owns (more h g) c b (next (more h g)) → (AcquireOf c g × (g.board ≡ b)) ⊎ ((AcquireOf c g → ⊥) × (ReleaseOf c g → ⊥) × Owns h c b (next h))
    owns-inv o = go (latest-inv h g (AcquireOf c) o.acquired o.latest)
      where
        go : (AcquireOf c g × (o.acquired ≡ next h)) ⊎ ((AcquireOf c g → ⊥) × Latest h (AcquireOf c) (next h) o.acquired) → (AcquireOf c g × (g.board ≡ b)) ⊎ ((AcquireOf c g → ⊥) × (ReleaseOf c g → ⊥) × Owns h c b (next h))
        go (inl (a, p)) = inl (a, ap (λ (e : Event). e.board) same ∙ o.board)
          where
            same : g ≡ o.latest.event
            same = at_same (more h g) (next h) g o.latest.event (at_new h g) (subst (λ (i : ℕ). At (more h g) i o.latest.event) p o.latest.stands)
        go (inr (a, l)) = inr (a, released, record { acquired = o.acquired; latest = l; board = ap (λ (e : Event). e.board) same ∙ o.board; kept = λ k e p q s r. o.kept k e p (omega (arith, next_more h g)) (at_old h g k e s) r })
          where
            same : l.event ≡ o.latest.event
            same = at_same (more h g) o.acquired l.event o.latest.event (at_old h g o.acquired l.event l.stands) o.latest.stands

            released : ReleaseOf c g → ⊥
            released r = o.kept (next h) g l.below (omega (arith, next_more h g)) (at_new h g) r

-- ── the computed owner ──

-- an event that changes no owner, and one that does
kept_by : (c : ℕ) (e : Event) (o : Option ℕ) → changes_owner c e ≡ false → owner_after c e o ≡ o
kept_by c e o q = go e.action refl (cases_Bool (eqb e.cell c))
  where
    go : (a : Action) → e.action ≡ a → (eqb e.cell c ≡ true) ⊎ (eqb e.cell c ≡ false) → owner_after c e o ≡ o
    go a p (inr f) = cond-false (eqb e.cell c) (owner_by e.action e.board o) o f
    go (Action.Write w) p (inl t) = cond-true (eqb e.cell c) (owner_by e.action e.board o) o t ∙ ap (λ i. owner_by i e.board o) p
    go Action.Acquire p (inl t) = absurd (true≢false (sym (and_from (eqb e.cell c) (changes_by e.action) t (ap changes_by p)) ∙ q))
    go Action.Release p (inl t) = absurd (true≢false (sym (and_from (eqb e.cell c) (changes_by e.action) t (ap changes_by p)) ∙ q))

changed_by : (c : ℕ) (e : Event) (o : Option ℕ) → changes_owner c e ≡ true → owner_after c e o ≡ owner_by e.action e.board None
changed_by c e o q = cond-true (eqb e.cell c) (owner_by e.action e.board o) o (and_parts (eqb e.cell c) (changes_by e.action) q).0 ∙ go e.action (and_parts (eqb e.cell c) (changes_by e.action) q).1
  where
    go : (a : Action) → changes_by a ≡ true → owner_by a e.board o ≡ owner_by a e.board None
    go (Action.Write w) r = absurd (true≢false (sym r))
    go Action.Acquire r = refl
    go Action.Release r = refl

module _ (c : ℕ) where
  abbrev pub Keeps : Event → Type 0
  Keeps e = changes_owner c e ≡ false

  pub owner-kept : (h : List Event) (o : Option ℕ) → ((k : ℕ) → k < length h → HoldsAt Keeps h k) → owner_from c h o ≡ o
  owner-kept [] o keep = refl
  owner-kept (e ∷ h) o keep = owner-kept h (owner_after c e o) (λ k l. keep (suc k) (omega arith)) ∙ kept_by c e o (keep 0 (omega arith) e)

  abbrev pub Changes : Event → Type 0
  Changes e = changes_owner c e ≡ true

  -- the last event that changes the owner says who it is
  pub owner-last : (h : List Event) (o : Option ℕ) (i : ℕ) (d : Event) → i < length h → HoldsAt Changes h i → ((k : ℕ) → i < k → k < length h → HoldsAt Keeps h k) → owner_from c h o ≡ owner_by (get_or h i d).action (get_or h i d).board None
  owner-last [] o i d l q keep = absurd (omega arith)
  owner-last (e ∷ h) o zero d l q keep = owner-kept h (owner_after c e o) (λ k m. keep (suc k) (omega arith) (omega arith)) ∙ changed_by c e o (q e)
  owner-last (e ∷ h) o (suc i) d l q keep = owner-last h (owner_after c e o) i d (omega arith) q (λ k m n. keep (suc k) (omega arith) (omega arith))

pub owner-more : (c : ℕ) (h : List Event) (g : Event) (o : Option ℕ) → owner_from c (more h g) o ≡ owner_after c g (owner_from c h o)
owner-more c [] g o = refl
owner-more c (e ∷ h) g o = owner-more c h g (owner_after c e o)

pub owner-tells : (h : List Event) (c b : ℕ) → (owner_of h c ≡ Some b) ↔ Owns h c b (next h)
owner-tells h c b = by-events (λ h. (owner_of h c ≡ Some b) ↔ Owns h c b (next h)) start one h
  where
    start : (owner_of [] c ≡ Some b) ↔ Owns [] c b (next [])
    start = (λ p. absurd (nothing-not-some p), λ o. absurd (none-not-some o.latest.stands))

    one : (h : List Event) (g : Event) → ((owner_of h c ≡ Some b) ↔ Owns h c b (next h)) → (owner_of (more h g) c ≡ Some b) ↔ Owns (more h g) c b (next (more h g))
    one h g r = go (kind c g)
      where
        Goal : Type 0
        Goal = (owner_of (more h g) c ≡ Some b) ↔ Owns (more h g) c b (next (more h g))

        here : g.cell ≡ c → (a : Action) → g.action ≡ a → owner_of (more h g) c ≡ owner_by a g.board (owner_of h c)
        here p a q = owner-more c h g None ∙ cond-true (eqb g.cell c) (owner_by g.action g.board (owner_of h c)) (owner_of h c) (eq-eqb g.cell c p) ∙ ap (λ i. owner_by i g.board (owner_of h c)) q

        kept : owner_of (more h g) c ≡ owner_of h c → (AcquireOf c g → ⊥) → (ReleaseOf c g → ⊥) → Goal
        kept p a s = (λ q. owns-end h g c b a s (r.0 (sym p ∙ q)), λ o. on (owns-inv h g c b o))
          where
            on : (AcquireOf c g × (g.board ≡ b)) ⊎ ((AcquireOf c g → ⊥) × (ReleaseOf c g → ⊥) × Owns h c b (next h)) → owner_of (more h g) c ≡ Some b
            on (inl (i, e)) = absurd (a i)
            on (inr (i, j, o)) = p ∙ r.1 o

        go : Kind c g → Goal
        go (elsewhere far) = kept (owner-more c h g None ∙ cond-false (eqb g.cell c) (owner_by g.action g.board (owner_of h c)) (owner_of h c) (ne_eqb g.cell c far)) (λ i. far i.0) (λ i. far i.0)
        go (writes w i) = kept (here i.0 (Action.Write w) i.1) (λ j. write-not-acquire i.1 j.1) (λ j. write-not-release i.1 j.1)
        go (acquires i) = (λ q. owns-new h g c b i (some_same (sym (here i.0 Action.Acquire i.1) ∙ q)), λ o. on (owns-inv h g c b o))
          where
            on : (AcquireOf c g × (g.board ≡ b)) ⊎ ((AcquireOf c g → ⊥) × (ReleaseOf c g → ⊥) × Owns h c b (next h)) → owner_of (more h g) c ≡ Some b
            on (inl (j, e)) = here i.0 Action.Acquire i.1 ∙ ap {B = Option ℕ} Some e
            on (inr (j, k, o)) = absurd (j i)
        go (releases i) = (λ q. absurd (nothing-not-some (sym (here i.0 Action.Release i.1) ∙ q)), λ o. on (owns-inv h g c b o))
          where
            on : (AcquireOf c g × (g.board ≡ b)) ⊎ ((AcquireOf c g → ⊥) × (ReleaseOf c g → ⊥) × Owns h c b (next h)) → owner_of (more h g) c ≡ Some b
            on (inl (j, e)) = absurd (acquire-not-release j.1 i.1)
            on (inr (j, k, o)) = absurd (k i)

pub owner-decided : OwnerDecided
unfolding OwnerDecided
owner-decided = owner-tells

-- ── discipline ──

pub disciplined-old : (h : List Event) (g : Event) → Disciplined (more h g) → Disciplined h
disciplined-old h g d = record {
  acquires = λ n e a p b o. let w = at-within h n e a in d.acquires n e (at_old h g n e a) p b (owns-up h g e.cell b n (omega arith) o);
  releases = λ n e a p. let w = at-within h n e a in owns-old h g e.cell e.board n (omega arith) (d.releases n e (at_old h g n e a) p);
}

pub disciplined-new : (h : List Event) (g : Event) → Disciplined h → (g.action ≡ Action.Acquire → (b : ℕ) → Owns h g.cell b (next h) → ⊥) → (g.action ≡ Action.Release → Owns h g.cell g.board (next h)) → Disciplined (more h g)
disciplined-new h g d free mine = record { acquires = acquires; releases = releases }
  where
    acquires : (n : ℕ) (e : Event) → At (more h g) n e → e.action ≡ Action.Acquire → (b : ℕ) → Owns (more h g) e.cell b n → ⊥
    acquires n e a p b o = go (at-inv h g n e a)
      where
        go : At h n e ⊎ ((n ≡ next h) × (g ≡ e)) → ⊥
        go (inl s) = let w = at-within h n e s in d.acquires n e s p b (owns-old h g e.cell b n (omega arith) o)
        go (inr (q, s)) = free (ap (λ (f : Event). f.action) s ∙ p) b (subst (λ (i : ℕ). Owns h i b (next h)) (sym (ap (λ (f : Event). f.cell) s)) (owns-old h g e.cell b (next h) (omega arith) (subst (Owns (more h g) e.cell b) q o)))

    releases : (n : ℕ) (e : Event) → At (more h g) n e → e.action ≡ Action.Release → Owns (more h g) e.cell e.board n
    releases n e a p = go (at-inv h g n e a)
      where
        go : At h n e ⊎ ((n ≡ next h) × (g ≡ e)) → Owns (more h g) e.cell e.board n
        go (inl s) = let w = at-within h n e s in owns-up h g e.cell e.board n (omega arith) (d.releases n e s p)
        go (inr (q, s)) =
            subst (Owns (more h g) e.cell e.board) (sym q)
            (subst (λ (f : Event). Owns (more h g) f.cell f.board (next h)) s (owns-up h g g.cell g.board (next h) (omega arith) (mine (ap (λ (f : Event). f.action) s ∙ p))))

-- ── one chain of releases ──

-- The initial release and every release of the cell are published, and the owner knows what is published.
pub record Turns (h : List Event) (c : ℕ) : Type 0 where
  pub first : Published h c initial_release
  pub each : (n : ℕ) (e : Event) → At h n e → ReleaseOf c e → Published h c (event n)
  pub owner : (b : ℕ) → Owns h c b (next h) → (x : Point) → Published h c x → Known h c b x
  pub first_before : (n : ℕ) (e : Event) → At h n e → ReleaseOf c e → Before h c initial_release (event n)
  pub chained : (m n : ℕ) (e f : Event) → At h m e → ReleaseOf c e → At h n f → ReleaseOf c f → m < n → Before h c (event m) (event n)

pub turns-start : (c : ℕ) → Turns [] c
turns-start c = record {
  first = record { latest = initial_release; is_latest = no_release (λ k e p q a r. none-not-some a); up_to = inl refl };
  each = λ n e a r. absurd (none-not-some a);
  owner = λ b o. absurd (none-not-some o.latest.stands);
  first_before = λ n e a r. absurd (none-not-some a);
  chained = λ m n e f a r. absurd (none-not-some a);
}

module _ (h : List Event) (g : Event) (c : ℕ) (t : Turns h c) where
  -- an event that is no release: each release is an old one
  quiet_each : {P : ℕ → Type 0} → (ReleaseOf c g → ⊥) → ((n : ℕ) (e : Event) → At h n e → ReleaseOf c e → P n) → (n : ℕ) (e : Event) → At (more h g) n e → ReleaseOf c e → P n
  quiet_each {P} other f n e a r = go (at-inv h g n e a)
    where
      go : At h n e ⊎ ((n ≡ next h) × (g ≡ e)) → P n
      go (inl s) = f n e s r
      go (inr (p, q)) = absurd (other (subst (ReleaseOf c) (sym q) r))

  turns-quiet : (ReleaseOf c g → ⊥) → ((b : ℕ) → Owns (more h g) c b (next (more h g)) → (x : Point) → Published h c x → Known (more h g) c b x) → Turns (more h g) c
  turns-quiet other owner = record {
    first = published-end h g c other t.first;
    each = quiet_each {P = λ n. Published (more h g) c (event n)} other (λ n e a r. published-end h g c other (t.each n e a r));
    owner = λ b o x k. owner b o x (old (published-inv h g c k));
    first_before = quiet_each {P = λ n. Before (more h g) c initial_release (event n)} other (λ n e a r. before-up h g c (t.first_before n e a r));
    chained = λ m n e f a r s q l. quiet_each {P = λ i. i < n → Before (more h g) c (event i) (event n)} other (λ i d b p less. quiet_each {P = λ j. i < j → Before (more h g) c (event i) (event j)} other (λ j k u v less'. before-up h g c (t.chained i j d k b p u v less')) n f s q less) m e a r l;
  }
    where
      old : {x : Point} → (ReleaseOf c g × ((x ≡ event (next h)) ⊎ From h g c x)) ⊎ ((ReleaseOf c g → ⊥) × Published h c x) → Published h c x
      old (inl (r, k)) = absurd (other r)
      old (inr (n, k)) = k

  turns-release : ReleaseOf c g → Owns h c g.board (next h) → Turns (more h g) c
  turns-release r mine = record { first = published-new h g c r (inr (under t.first)); each = each; owner = λ b o x k. absurd (free b (owns-inv h g c b o)); first_before = first_before; chained = chained }
    where
      -- what was published comes before the new release, since the owner knew it
      under : {x : Point} → Published h c x → Before (more h g) c x (event (next h))
      under {x} k = before-new h g c r.0 (t.owner g.board mine x k)

      each : (n : ℕ) (e : Event) → At (more h g) n e → ReleaseOf c e → Published (more h g) c (event n)
      each n e a q = go (at-inv h g n e a)
        where
          go : At h n e ⊎ ((n ≡ next h) × (g ≡ e)) → Published (more h g) c (event n)
          go (inl s) = published-new h g c r (inr (under (t.each n e s q)))
          go (inr (p, s)) = published-new h g c r (inl (ap event p))

      free : (b : ℕ) → (AcquireOf c g × (g.board ≡ b)) ⊎ ((AcquireOf c g → ⊥) × (ReleaseOf c g → ⊥) × Owns h c b (next h)) → ⊥
      free b (inl (a, p)) = acquire-not-release a.1 r.1
      free b (inr (a, n, o)) = n r

      first_before : (n : ℕ) (e : Event) → At (more h g) n e → ReleaseOf c e → Before (more h g) c initial_release (event n)
      first_before n e a q = go (at-inv h g n e a)
        where
          go : At h n e ⊎ ((n ≡ next h) × (g ≡ e)) → Before (more h g) c initial_release (event n)
          go (inl s) = before-up h g c (t.first_before n e s q)
          go (inr (p, s)) = subst (λ (i : ℕ). Before (more h g) c initial_release (event i)) (sym p) (under t.first)

      chained : (m n : ℕ) (e f : Event) → At (more h g) m e → ReleaseOf c e → At (more h g) n f → ReleaseOf c f → m < n → Before (more h g) c (event m) (event n)
      chained m n e f a q s u l = go (at-inv h g m e a) (at-inv h g n f s)
        where
          go : At h m e ⊎ ((m ≡ next h) × (g ≡ e)) → At h n f ⊎ ((n ≡ next h) × (g ≡ f)) → Before (more h g) c (event m) (event n)
          go (inl i) (inl j) = before-up h g c (t.chained m n e f i q j u l)
          go (inl i) (inr (p, j)) = subst (λ (k : ℕ). Before (more h g) c (event m) (event k)) (sym p) (under (t.each m e i q))
          go (inr (p, i)) j = let w = at-within (more h g) n f s in absurd (omega (arith, next_more h g))

pub turns : (c : ℕ) (h : List Event) → Disciplined h → Turns h c
turns c = by-events (λ h. Disciplined h → Turns h c) (λ d. turns-start c) one
  where
    one : (h : List Event) (g : Event) → (Disciplined h → Turns h c) → Disciplined (more h g) → Turns (more h g) c
    one h g r d = go (kind c g)
      where
        t : Turns h c
        t = r (disciplined-old h g d)

        still : (AcquireOf c g → ⊥) → (b : ℕ) → Owns (more h g) c b (next (more h g)) → (x : Point) → Published h c x → Known (more h g) c b x
        still a b o x k = on (owns-inv h g c b o)
          where
            on : (AcquireOf c g × (g.board ≡ b)) ⊎ ((AcquireOf c g → ⊥) × (ReleaseOf c g → ⊥) × Owns h c b (next h)) → Known (more h g) c b x
            on (inl (i, p)) = absurd (a i)
            on (inr (i, j, p)) = known_on h g c (t.owner b p x k)

        taken : AcquireOf c g → (b : ℕ) → Owns (more h g) c b (next (more h g)) → (x : Point) → Published h c x → Known (more h g) c b x
        taken a b o x k = on (owns-inv h g c b o)
          where
            on : (AcquireOf c g × (g.board ≡ b)) ⊎ ((AcquireOf c g → ⊥) × (ReleaseOf c g → ⊥) × Owns h c b (next h)) → Known (more h g) c b x
            on (inl (i, p)) = known-new h g c (a.0, p) (inr (before-acquire h g c a k))
            on (inr (i, j, p)) = absurd (i a)

        go : Kind c g → Turns (more h g) c
        go (elsewhere far) = turns-quiet h g c t (λ i. far i.0) (still (λ i. far i.0))
        go (writes w i) = turns-quiet h g c t (λ j. write-not-release i.1 j.1) (still (λ j. write-not-acquire i.1 j.1))
        go (acquires i) = turns-quiet h g c t (λ j. acquire-not-release i.1 j.1) (taken i)
        go (releases i) = turns-release h g c t i (subst (λ (k : ℕ). Owns h k g.board (next h)) i.0 (owns-old h g g.cell g.board (next h) (omega arith) (d.releases (next h) g (at_new h g) i.1)))

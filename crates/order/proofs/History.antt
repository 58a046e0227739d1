-- What one more event changes: in the history, in the order, in what a board knows and in what is published.
use Rattle.std.proofs.Common.{◌≡◌, ℕ, zero, suc, ◌<◌, ◌≤◌, ◌⊎◌, List, [], ◌∷◌, ◌++◌, length, get_or, Some, None, Option, sym, refl, ap, ◌∙◌, subst, inl, inr, le_of_suc-le-suc, not-suc-le-zero, add-one, arith}
use Rattle.std.proofs.lemmas.List.{append-nil, append_assoc, length_push}
use Rattle.model.specs.declared.event.Action.{Action}
use Rattle.model.specs.declared.event.Event.{Event}
use Rattle.order.specs.Order.{event_at, At, next, more, ReleaseOf, NoneBetween, Latest, Point, event}
use Rattle.order.specs.Order.{LatestRelease, some_release, no_release}

-- ── constructors apart ──

pub none-not-some : {e : Event} → ◌≡◌ {A = Option Event} None (Some e) → ⊥
none-not-some p = cc

pub some-event : {e f : Event} → ◌≡◌ {A = Option Event} (Some e) (Some f) → e ≡ f
some-event p = cc

pub nothing-not-some : {n : ℕ} → ◌≡◌ {A = Option ℕ} None (Some n) → ⊥
nothing-not-some p = cc

pub some_same : {m n : ℕ} → ◌≡◌ {A = Option ℕ} (Some m) (Some n) → m ≡ n
some_same p = cc

pub write-not-release : {a : Action} {w : ℕ} → a ≡ Action.Write w → a ≡ Action.Release → ⊥
write-not-release p q = cc

pub write-not-acquire : {a : Action} {w : ℕ} → a ≡ Action.Write w → a ≡ Action.Acquire → ⊥
write-not-acquire p q = cc

pub acquire-not-release : {a : Action} → a ≡ Action.Acquire → a ≡ Action.Release → ⊥
acquire-not-release p q = cc

pub event-same : {m n : ℕ} → event m ≡ event n → m ≡ n
event-same p = cc

pub write_same : {a : Action} {v w : ℕ} → a ≡ Action.Write v → a ≡ Action.Write w → v ≡ w
write_same p q = cc

-- ── numbers ──

pub at-within : (h : List Event) (n : ℕ) (e : Event) → At h n e → (0 < n) × (n < next h)
at-within [] n e a = absurd (none-not-some a)
at-within (f ∷ h) zero e a = absurd (none-not-some a)
at-within (f ∷ h) (suc zero) e a = omega arith
at-within (f ∷ h) (suc (suc n)) e a = let r = at-within h (suc n) e a in omega arith

-- the event of a number is the element just below it in the list
pub at-get_or : (h : List Event) (i : ℕ) (d : Event) → i < length h → At h (suc i) (get_or h i d)
at-get_or [] i d l = absurd (not-suc-le-zero l)
at-get_or (e ∷ h) zero d l = refl
at-get_or (e ∷ h) (suc i) d l = at-get_or h i d (le_of_suc-le-suc l)

pub at_none : (h : List Event) (n : ℕ) → (n ≡ 0) ⊎ (length h < n) → event_at h n ≡ None
at_none [] n w = refl
at_none (e ∷ h) zero w = refl
at_none (e ∷ h) (suc zero) w = absurd (omega arith)
at_none (e ∷ h) (suc (suc n)) w = at_none h (suc n) (inr (omega arith))

pub at_same : (h : List Event) (n : ℕ) (e f : Event) → At h n e → At h n f → e ≡ f
at_same h n e f a b = cc

pub next_more : (h : List Event) (g : Event) → next (more h g) ≡ suc (next h)
next_more h g = ap suc (length_push h g ∙ add-one (length h))

pub at_old : (h : List Event) (g : Event) (n : ℕ) (e : Event) → At h n e → At (more h g) n e
at_old [] g n e a = absurd (none-not-some a)
at_old (f ∷ h) g zero e a = a
at_old (f ∷ h) g (suc zero) e a = a
at_old (f ∷ h) g (suc (suc n)) e a = at_old h g (suc n) e a

pub at_new : (h : List Event) (g : Event) → At (more h g) (next h) g
at_new [] g = refl
at_new (f ∷ h) g = at_new h g

pub at-inv : (h : List Event) (g : Event) (n : ℕ) (e : Event) → At (more h g) n e → At h n e ⊎ ((n ≡ next h) × (g ≡ e))
at-inv [] g zero e a = absurd (none-not-some a)
at-inv [] g (suc zero) e a = inr (refl, cc)
at-inv [] g (suc (suc n)) e a = absurd (none-not-some a)
at-inv (f ∷ h) g zero e a = absurd (none-not-some a)
at-inv (f ∷ h) g (suc zero) e a = inl a
at-inv (f ∷ h) g (suc (suc n)) e a = up (at-inv h g (suc n) e a)
  where
    up : At h (suc n) e ⊎ ((suc n ≡ next h) × (g ≡ e)) → At h (suc n) e ⊎ ((suc (suc n) ≡ suc (next h)) × (g ≡ e))
    up (inl b) = inl b
    up (inr (p, q)) = inr (ap suc p, q)

-- what holds goes on holding as events are added, and so holds of every history
pub along : (P : List Event → Type 0) → ((h : List Event) (g : Event) → P h → P (more h g)) → (h later : List Event) → P h → P (h ++ later)
along P one h [] p = subst P (sym (append-nil h)) p
along P one h (g ∷ later) p = subst P (append_assoc h (g ∷ []) later) (along P one (more h g) later (one h g p))

pub by-events : (P : List Event → Type 0) → P [] → ((h : List Event) (g : Event) → P h → P (more h g)) → (h : List Event) → P h
by-events P none one h = along P one [] h none

-- ── the last event of a kind ──

module _ (h : List Event) (g : Event) where
  pub none_old : (Kind : Event → Type 0) (m n : ℕ) → NoneBetween (more h g) Kind m n → NoneBetween h Kind m n
  none_old Kind m n none k e p q a r = none k e p q (at_old h g k e a) r

  -- below the number of the new event nothing has changed
  pub none-up : (Kind : Event → Type 0) (m n : ℕ) → n ≤ next h → NoneBetween h Kind m n → NoneBetween (more h g) Kind m n
  none-up Kind m n low none k e p q a r = go (at-inv h g k e a)
    where
      go : At h k e ⊎ ((k ≡ next h) × (g ≡ e)) → ⊥
      go (inl b) = none k e p q b r
      go (inr (u, v)) = omega arith

  pub none_end : (Kind : Event → Type 0) (m : ℕ) → (Kind g → ⊥) → NoneBetween h Kind m (next h) → NoneBetween (more h g) Kind m (next (more h g))
  none_end Kind m other none k e p q a r = go (at-inv h g k e a)
    where
      go : At h k e ⊎ ((k ≡ next h) × (g ≡ e)) → ⊥
      go (inl b) = none k e p (at-within h k e b).1 b r
      go (inr (u, v)) = other (subst Kind (sym v) r)

  unfoldable pub latest-up : (Kind : Event → Type 0) (n m : ℕ) → n ≤ next h → Latest h Kind n m → Latest (more h g) Kind n m
  latest-up Kind n m low r = record { event = r.event; stands = at_old h g m r.event r.stands; kind = r.kind; below = r.below; last = none-up Kind m n low r.last }

  pub latest-old : (Kind : Event → Type 0) (n m : ℕ) → n ≤ next h → Latest (more h g) Kind n m → Latest h Kind n m
  latest-old Kind n m low r = go (at-inv h g m r.event r.stands)
    where
      go : At h m r.event ⊎ ((m ≡ next h) × (g ≡ r.event)) → Latest h Kind n m
      go (inl a) = record { event = r.event; stands = a; kind = r.kind; below = r.below; last = none_old Kind m n r.last }
      go (inr (p, q)) = let l = r.below in absurd (omega arith)

  -- at the end the new event is the last of its kinds, and of no other
  unfoldable pub latest-new : (Kind : Event → Type 0) → Kind g → Latest (more h g) Kind (next (more h g)) (next h)
  latest-new Kind kind = record { event = g; stands = at_new h g; kind = kind; below = omega (arith, next_more h g); last = λ k e p q a r. omega (arith, next_more h g) }

  unfoldable pub latest-end : (Kind : Event → Type 0) (m : ℕ) → (Kind g → ⊥) → Latest h Kind (next h) m → Latest (more h g) Kind (next (more h g)) m
  latest-end Kind m other r = record { event = r.event; stands = at_old h g m r.event r.stands; kind = r.kind; below = (let l = r.below in omega (arith, next_more h g)); last = none_end Kind m other r.last }

  pub latest-inv : (Kind : Event → Type 0) (m : ℕ) → Latest (more h g) Kind (next (more h g)) m → (Kind g × (m ≡ next h)) ⊎ ((Kind g → ⊥) × Latest h Kind (next h) m)
  latest-inv Kind m r = go (at-inv h g m r.event r.stands)
    where
      go : At h m r.event ⊎ ((m ≡ next h) × (g ≡ r.event)) → (Kind g × (m ≡ next h)) ⊎ ((Kind g → ⊥) × Latest h Kind (next h) m)
      go (inl a) = inr (
        λ kind. let w = at-within h m r.event a in r.last (next h) g w.1 (omega (arith, next_more h g)) (at_new h g) kind,
        record { event = r.event; stands = a; kind = r.kind; below = (at-within h m r.event a).1; last = λ k e p q b s. r.last k e p (omega (arith, next_more h g)) (at_old h g k e b) s },
      )
      go (inr (p, q)) = inl (subst Kind (sym q) r.kind, p)

  -- the same of releases, the initial one among them
  module _ (c : ℕ) where
    pub release_up : {n : ℕ} {x : Point} → n ≤ next h → LatestRelease h c n x → LatestRelease (more h g) c n x
    release_up {n} low (some_release {m} l) = some_release (latest-up (ReleaseOf c) n m low l)
    release_up {n} low (no_release none) = no_release (none-up (ReleaseOf c) 0 n low none)

    pub release_old : {n : ℕ} {x : Point} → n ≤ next h → LatestRelease (more h g) c n x → LatestRelease h c n x
    release_old {n} low (some_release {m} l) = some_release (latest-old (ReleaseOf c) n m low l)
    release_old {n} low (no_release none) = no_release (none_old (ReleaseOf c) 0 n none)

    pub release_end : {x : Point} → (ReleaseOf c g → ⊥) → LatestRelease h c (next h) x → LatestRelease (more h g) c (next (more h g)) x
    release_end other (some_release {m} l) = some_release (latest-end (ReleaseOf c) m other l)
    release_end other (no_release none) = no_release (none_end (ReleaseOf c) 0 other none)

    pub release_inv : {x : Point} → LatestRelease (more h g) c (next (more h g)) x → (ReleaseOf c g × (x ≡ event (next h))) ⊎ ((ReleaseOf c g → ⊥) × LatestRelease h c (next h) x)
    release_inv (some_release {m} l) = go (latest-inv (ReleaseOf c) m l)
      where
        go : (ReleaseOf c g × (m ≡ next h)) ⊎ ((ReleaseOf c g → ⊥) × Latest h (ReleaseOf c) (next h) m) → (ReleaseOf c g × (event m ≡ event (next h))) ⊎ ((ReleaseOf c g → ⊥) × LatestRelease h c (next h) (event m))
        go (inl (r, p)) = inl (r, ap event p)
        go (inr (r, k)) = inr (r, some_release k)
    release_inv (no_release none) = inr (
      λ r. none (next h) g (omega arith) (omega (arith, next_more h g)) (at_new h g) r,
      no_release (λ k e p q a r. none k e p (omega (arith, next_more h g)) (at_old h g k e a) r),
    )

-- The machine's owner is the owner by the moves and by the history, and the history keeps to ownership.
use Rattle.std.proofs.Common.{◌≡◌, ℕ, eqb, ◌⊎◌, List, None, sym, refl, ap, ◌∙◌, subst, inl, inr, arith}
use Rattle.std.proofs.lemmas.Bool.{eq-eqb, ne_eqb, cond-true, cond-false}
use Rattle.model.specs.declared.event.Action.{Action}
use Rattle.model.specs.declared.event.Event.{Event}
use Rattle.order.specs.Order.{At, next, more, AcquireOf, ReleaseOf, Owns, Disciplined}
use Rattle.order.specs.Test.{owner_by, owner_of}
use Rattle.order.proofs.History.{none-not-some, nothing-not-some, acquire-not-release, write-not-acquire, write-not-release, at-within, at-inv}
use Rattle.order.proofs.Owners.{owns-up, owns-old, owner-more, owner-tells}
use Rattle.protocol.specs.Machine.{Cell, Move, reads, writes, acquires, releases, writes_back, completes, ejects, rests, Moves}
use Rattle.protocol.specs.Runs.{event_of, noting, Run, opens, makes, elsewhere, owning, owner_in}
use Rattle.protocol.specs.Rules.{DisciplinedAt, OwnersKept}
use Rattle.protocol.proofs.Steps.{owner-after}

-- ── one owner ──

pub owner-noting : (c : ℕ) (m : Move) (h : List Event) → owner_of (noting c m h) c ≡ owning m (owner_of h c)
owner-noting c m h = go m
  where
    here : (b : ℕ) (a : Action) → owner_of (more h (event_of c b a)) c ≡ owner_by a b (owner_of h c)
    here b a = owner-more c h (event_of c b a) None ∙ cond-true (eqb c c) (owner_by a b (owner_of h c)) (owner_of h c) (eq-eqb c c refl)

    go : (m : Move) → owner_of (noting c m h) c ≡ owning m (owner_of h c)
    go (reads b w) = refl
    go (writes b w) = here b (Action.Write w)
    go (acquires b) = here b Action.Acquire
    go (releases b) = here b Action.Release
    go (writes_back b) = refl
    go (completes b w) = refl
    go (ejects b) = refl
    go rests = refl

owner-elsewhere : (c : ℕ) (h : List Event) (e : Event) → (e.cell ≡ c → ⊥) → owner_of (more h e) c ≡ owner_of h c
owner-elsewhere c h e far = owner-more c h e None ∙ cond-false (eqb e.cell c) (owner_by e.action e.board (owner_of h c)) (owner_of h c) (ne_eqb e.cell c far)

pub run-owner : {c start : ℕ} {h : List Event} {ms : List Move} {s : Cell} → Run c start h ms s → s.owner ≡ owner_of h c
run-owner (opens o) = o.owner
run-owner {c} (makes {h} m r v) = owner-after m v ∙ ap (owning m) (run-owner r) ∙ sym (owner-noting c m h)
run-owner {c} (elsewhere {h} e far r v) = owner-after rests v ∙ run-owner r ∙ sym (owner-elsewhere c h e far)

pub moves-owner : {c start : ℕ} {h : List Event} {ms : List Move} {s : Cell} → Run c start h ms s → owner_in ms ≡ owner_of h c
moves-owner (opens o) = refl
moves-owner {c} (makes {h} m r v) = ap (owning m) (moves-owner r) ∙ sym (owner-noting c m h)
moves-owner {c} (elsewhere {h} e far r v) = moves-owner r ∙ sym (owner-elsewhere c h e far)

-- ── discipline ──

disciplined-more : (h : List Event) (g : Event) (c : ℕ) → (AcquireOf c g → (b : ℕ) → Owns h c b (next h) → ⊥) → (ReleaseOf c g → Owns h c g.board (next h)) → DisciplinedAt h c → DisciplinedAt (more h g) c
disciplined-more h g c free mine d = record { acquires = acquires; releases = releases }
  where
    acquires : (n : ℕ) (e : Event) → At (more h g) n e → AcquireOf c e → (b : ℕ) → Owns (more h g) c b n → ⊥
    acquires n e a is b o = go (at-inv h g n e a)
      where
        go : At h n e ⊎ ((n ≡ next h) × (g ≡ e)) → ⊥
        go (inl s) = d.acquires n e s is b (owns-old h g c b n (let w = at-within h n e s in omega arith) o)
        go (inr (p, q)) = free (subst (AcquireOf c) (sym q) is) b (owns-old h g c b (next h) (omega arith) (subst (Owns (more h g) c b) p o))

    releases : (n : ℕ) (e : Event) → At (more h g) n e → ReleaseOf c e → Owns (more h g) c e.board n
    releases n e a is = go (at-inv h g n e a)
      where
        go : At h n e ⊎ ((n ≡ next h) × (g ≡ e)) → Owns (more h g) c e.board n
        go (inl s) = owns-up h g c e.board n (let w = at-within h n e s in omega arith) (d.releases n e s is)
        go (inr (p, q)) = subst (Owns (more h g) c e.board) (sym p) (owns-up h g c e.board (next h) (omega arith) (subst (λ (f : Event). Owns h c f.board (next h)) q (mine (subst (ReleaseOf c) (sym q) is))))

disciplined-move : (c : ℕ) (h : List Event) (m : Move) {s t : Cell} → s.owner ≡ owner_of h c → Moves m s t → DisciplinedAt h c → DisciplinedAt (noting c m h) c
disciplined-move c h (reads b w) o v d = d
disciplined-move c h (writes b w) o v d = disciplined-more h (event_of c b (Action.Write w)) c (λ is. absurd (write-not-acquire {w = w} refl is.1)) (λ is. absurd (write-not-release {w = w} refl is.1)) d
disciplined-move c h (acquires b) o v d = disciplined-more h (event_of c b Action.Acquire) c (λ is p owns. nothing-not-some (sym v.guard ∙ o ∙ (owner-tells h c p).1 owns)) (λ is. absurd (acquire-not-release refl is.1)) d
disciplined-move c h (releases b) o v d = disciplined-more h (event_of c b Action.Release) c (λ is. absurd (acquire-not-release is.1 refl)) (λ is. (owner-tells h c b).0 (sym o ∙ v.guard.0)) d
disciplined-move c h (writes_back b) o v d = d
disciplined-move c h (completes b w) o v d = d
disciplined-move c h (ejects b) o v d = d
disciplined-move c h rests o v d = d

pub run-disciplined : {c start : ℕ} {h : List Event} {ms : List Move} {s : Cell} → Run c start h ms s → DisciplinedAt h c
run-disciplined (opens o) = record { acquires = λ n e a. absurd (none-not-some a); releases = λ n e a. absurd (none-not-some a) }
run-disciplined {c} (makes {h} m r v) = disciplined-move c h m (run-owner r) v (run-disciplined r)
run-disciplined {c} (elsewhere {h} e far r v) = disciplined-more h e c (λ is. absurd (far is.0)) (λ is. absurd (far is.0)) (run-disciplined r)

-- a history that keeps to ownership at every cell
pub disciplined-everywhere : (h : List Event) → ((c : ℕ) → DisciplinedAt h c) → Disciplined h
disciplined-everywhere h d = record { acquires = λ n e a is. (d e.cell).acquires n e a (refl, is); releases = λ n e a is. (d e.cell).releases n e a (refl, is) }

pub owners-kept : OwnersKept
owners-kept c start h ms s r = record { machine = run-owner r; moves = moves-owner r; disciplined = run-disciplined r }

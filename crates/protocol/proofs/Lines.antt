-- Where only owners use a cell, its writes are in one line: each is before the last, and the owner knows of the last. So
-- exactly the last is readable for the owner.
use Rattle.std.proofs.Common.{◌≡◌, ℕ, ◌<◌, ◌⊎◌, List, [], Some, None, Option, sym, refl, ◌∙◌, subst, inl, inr, arith}
use Rattle.model.specs.declared.event.Action.{Action}
use Rattle.model.specs.declared.event.Event.{Event}
use Rattle.order.specs.Order.{next, more, WriteOf, AcquireOf, ReleaseOf, Point, initial_write, initial_release, event, no_release, initial, link, IsWrite, Known, Readable, Legal, Brings}
use Rattle.order.proofs.History.{none-not-some, nothing-not-some, some_same, event-same, write-not-acquire, write-not-release, at-within, at_new}
use Rattle.order.proofs.Growth.{UpTo, Published, up-to-before, up-to-up, before-new, before-acquire, known-new, known_on, published-end, published-new, write_up, write-inv}
use Rattle.order.proofs.Laws.{before-forward}
use Rattle.protocol.specs.Machine.{Cell, Move, reads, writes, acquires, releases, writes_back, completes, ejects, rests, Moves}
use Rattle.protocol.specs.Runs.{event_of, noting, Run, opens, makes, elsewhere, owning, owner_in, ByOwner, OwnersOnly}
use Rattle.protocol.specs.Rules.{LastWrite, some_write, no_write, ReadsLast, OwnerReadsLast}
use Rattle.protocol.proofs.Owned.{run-owner, moves-owner}
use Rattle.protocol.proofs.Kept.{reads-legal}

-- The write at the end of the line. The owner knows of it, and without an owner it is published.
pub record Line (h : List Event) (c : ℕ) (o : Option ℕ) : Type 0 where
  pub end : Point
  pub write : IsWrite h c end
  pub highest : (y : Point) → IsWrite h c y → UpTo h c y end
  pub owned : (b : ℕ) → o ≡ Some b → Known h c b end
  pub free : o ≡ None → Published h c end

line-opening : (c : ℕ) → Line [] c None
line-opening c = record { end = initial_write; write = tt; highest = highest; owned = λ b q. absurd (nothing-not-some q); free = λ q. record { latest = initial_release; is_latest = no_release (λ k e p q a r. none-not-some a); up_to = inr (link initial) } }
  where
    highest : (y : Point) → IsWrite [] c y → UpTo [] c y initial_write
    highest initial_write w = inl refl
    highest initial_release w = absurd w
    highest (event n) w = absurd (none-not-some w.2)

module _ (h : List Event) (g : Event) (c : ℕ) where
  -- an event that is no write of the cell
  line_quiet : {o i : Option ℕ} → ((w : ℕ) → WriteOf c w g → ⊥) → (k : Line h c o) → ((b : ℕ) → i ≡ Some b → Known (more h g) c b k.end) → (i ≡ None → Published (more h g) c k.end) → Line (more h g) c i
  line_quiet quiet k owned free = record { end = k.end; write = write_up h g c k.end k.write; highest = λ y w. go y (write-inv h g c y w); owned = owned; free = free }
    where
      go : (y : Point) → IsWrite h c y ⊎ ((y ≡ event (next h)) × ((w : ℕ) × WriteOf c w g)) → UpTo (more h g) c y k.end
      go y (inl w) = up-to-up h g c (k.highest y w)
      go y (inr (q, (w, is))) = absurd (quiet w is)

  line-elsewhere : {o : Option ℕ} → (g.cell ≡ c → ⊥) → Line h c o → Line (more h g) c o
  line-elsewhere far k = line_quiet (λ w is. far is.0) k (λ b q. known_on h g c (k.owned b q)) (λ q. published-end h g c (λ is. far is.0) (k.free q))

  line-acquire : AcquireOf c g → Line h c None → Line (more h g) c (Some g.board)
  line-acquire is k = line_quiet (λ w i. write-not-acquire i.1 is.1) k (λ b q. known-new h g c (is.0, some_same q) (inr (before-acquire h g c is (k.free refl)))) (λ q. absurd (nothing-not-some (sym q)))

  line-release : ReleaseOf c g → Line h c (Some g.board) → Line (more h g) c None
  line-release is k = line_quiet (λ w i. write-not-release i.1 is.1) k (λ b q. absurd (nothing-not-some q)) (λ q. published-new h g c is (inr (before-new h g c is.0 (k.owned g.board refl))))

  line_write : {w : ℕ} → WriteOf c w g → Line h c (Some g.board) → Line (more h g) c (Some g.board)
  line_write {w} is k = record { end = event (next h); write = (g, w, at_new h g, is); highest = λ y i. go y (write-inv h g c y i); owned = λ b q. known-new h g c (is.0, some_same q) (inl refl); free = λ q. absurd (nothing-not-some (sym q)) }
    where
      go : (y : Point) → IsWrite h c y ⊎ ((y ≡ event (next h)) × ((v : ℕ) × WriteOf c v g)) → UpTo (more h g) c y (event (next h))
      go y (inl i) = inr (up-to-before (up-to-up h g c (k.highest y i)) (before-new h g c is.0 (k.owned g.board refl)))
      go y (inr (q, i)) = inl q

line-move : (h : List Event) (c : ℕ) (m : Move) {s t : Cell} {o : Option ℕ} → Moves m s t → s.owner ≡ o → ByOwner o m → Line h c o → Line (noting c m h) c (owning m o)
line-move h c (reads b w) v q by k = k
line-move h c (writes b w) v q by k = subst (Line (more h g) c) (sym by) (line_write h g c (refl, refl) (subst (Line h c) by k))
  where
    g : Event
    g = event_of c b (Action.Write w)
line-move h c (acquires b) v q by k = line-acquire h (event_of c b Action.Acquire) c (refl, refl) (subst (Line h c) (sym q ∙ v.guard) k)
line-move h c (releases b) v q by k = line-release h (event_of c b Action.Release) c (refl, refl) (subst (Line h c) (sym q ∙ v.guard.0) k)
line-move h c (writes_back b) v q by k = k
line-move h c (completes b w) v q by k = k
line-move h c (ejects b) v q by k = k
line-move h c rests v q by k = k

pub run-line : {c start : ℕ} {h : List Event} {ms : List Move} {s : Cell} → Run c start h ms s → OwnersOnly ms → Line h c (owner_in ms)
run-line {c} (opens o) by = line-opening c
run-line {c} (makes {h} m r v) by = line-move h c m v (run-owner r ∙ sym (moves-owner r)) by.0 (run-line r by.1)
run-line {c} (elsewhere {h} e far r v) by = line-elsewhere h e c far (run-line r by.1)

-- ── the end of the line ──

line-last : {h : List Event} {c : ℕ} (x : Point) → IsWrite h c x → ((y : Point) → IsWrite h c y → UpTo h c y x) → LastWrite h c x
line-last {h} {c} initial_write w highest = no_write (λ n e p q a i. go n (highest (event n) (e, i.0, a, i.1)))
  where
    go : (n : ℕ) → UpTo h c (event n) initial_write → ⊥
    go n (inl q) = let z : ◌≡◌ {A = ℕ} 0 1 = cc in omega arith
    go n (inr u) = let l = before-forward u in omega arith
line-last initial_release w highest = absurd w
line-last {h} {c} (event n) (e, w, stands, is) highest = some_write (record { event = e; stands = stands; kind = (w, is); below = (at-within h n e stands).1; last = λ k f p q a i. go k p (highest (event k) (f, i.0, a, i.1)) })
  where
    go : (k : ℕ) → n < k → UpTo h c (event k) (event n) → ⊥
    go k p (inl q) = let z = event-same q in omega arith
    go k p (inr u) = let l = before-forward u in omega arith

line_reads : {h : List Event} {start c b w : ℕ} {o : Option ℕ} → o ≡ Some b → Line h c o → Legal h start c b w → ReadsLast h start c b w
line_reads {h} {start} {c} {b} {w} owner k l = record { write = k.end; last = line-last k.end k.write k.highest; brings = subst (λ x. Brings h start c x w) same l.brings; readable = subst (Readable h c b) same l.readable; only = only }
  where
    only : (x : Point) → Readable h c b x → x ≡ k.end
    only x r = go (k.highest x r.write)
      where
        go : UpTo h c x k.end → x ≡ k.end
        go (inl q) = q
        go (inr u) = absurd (r.current (record { by = k.end; write = k.write; later = u; known = k.owned b owner }))

    same : l.write ≡ k.end
    same = only l.write l.readable

pub owner-reads-last : OwnerReadsLast
owner-reads-last c start b w h ms s t r v by = line_reads by.0 (run-line r by.1) (reads-legal c start b w h ms s t r v)

-- What every run of the machine keeps: a clean entry has a word that its board may read, and debts and memory are right.
-- So a read answers a legal word.
use Rattle.std.proofs.Common.{◌≡◌, ℕ, List, [], sym, refl, ap, ◌∙◌, subst, inl, inr, arith}
use Rattle.model.specs.declared.entry.Entry.{Entry}
use Rattle.model.specs.declared.event.Action.{Action}
use Rattle.model.specs.declared.event.Event.{Event}
use Rattle.order.specs.Order.{more, By, Point, initial_write, initial_release, event, Before, IsWrite, Legal}
use Rattle.order.proofs.History.{none-not-some, write-not-release, write-not-acquire}
use Rattle.order.proofs.Laws.{before-forward}
use Rattle.protocol.specs.Machine.{Cell, Move, reads, writes, acquires, releases, writes_back, completes, ejects, rests, read_word, Moves}
use Rattle.protocol.specs.Runs.{Opening, event_of, noting, Run, opens, makes, elsewhere}
use Rattle.protocol.specs.Rules.{ReadsLegal}
use Rattle.protocol.proofs.Steps.{each, owes, debts-left, opening-settled, release-settled, OnClean, found, clean-read, clean-acquire, clean_back}
use Rattle.protocol.proofs.Writes.{legal-more}
use Rattle.protocol.proofs.Debts.{Owed, Debts, debts-legal, debts-alike, debts-more, debts-written, debts-completed}

pub record Kept (h : List Event) (start c : ℕ) (s : Cell) : Type 0 where
  pub clean : (p : ℕ) → OnClean (Legal h start c p) (s.entry p)
  pub debts : Debts h start c s

pub kept-legal : {h : List Event} {start c : ℕ} {s : Cell} → Kept h start c s → (b : ℕ) → Legal h start c b (read_word (s.entry b) (s.flight b) s.memory)
kept-legal {h} {start} {c} {s} k b = found (Legal h start c b) (s.entry b) (s.flight b) s.memory (k.clean b) (debts-legal k.debts b)

clean-more : (h : List Event) (g : Event) (start c p : ℕ) (e : Entry) → (By c p g → g.action ≡ Action.Release) → OnClean (Legal h start c p) e → OnClean (Legal (more h g) start c p) e
clean-more h g start c p Entry.Invalid keep k = tt
clean-more h g start c p (Entry.Clean v) keep k = legal-more h g c keep k
clean-more h g start c p (Entry.Dirty v) keep k = tt

module _ (c start : ℕ) where
  kept-opening : {s : Cell} → Opening start s → Kept [] start c s
  kept-opening {s} o = record { clean = λ p. subst (OnClean (Legal [] start c p)) (sym (o.entry p)) tt; debts = record { owed = λ p. subst (Owed [] c p) (sym (opening-settled o p)) tt; memory = record { write = initial_write; brings = sym o.memory; later = λ y w u. absurd (first y w u) } } }
    where
      -- nothing is written yet after the initial write
      first : (y : Point) → IsWrite [] c y → Before [] c initial_write y → ⊥
      first initial_write w u = let l = before-forward u in omega arith
      first initial_release w u = w
      first (event n) w u = none-not-some w.2

  kept-elsewhere : {h : List Event} (e : Event) → (e.cell ≡ c → ⊥) → {s : Cell} → Kept h start c s → Kept (more h e) start c s
  kept-elsewhere {h} e far {s} k = record {
    clean = λ p. clean-more h e start c p (s.entry p) (λ y. absurd (far y.0)) (k.clean p);
    debts = debts-more h e c (λ w is. far is.0) (λ p y. absurd (far y.0)) k.debts;
  }

  kept_move : {h : List Event} (m : Move) {s t : Cell} → Moves m s t → Kept h start c s → Kept (noting c m h) start c t
  kept_move {h} (reads b w) {s} v k = record {
    clean = each (λ p e ws. OnClean (Legal h start c p) e) v.effect (clean-read (Legal h start c b) (s.entry b) w (subst (Legal h start c b) (sym v.guard) (kept-legal k b)) (k.clean b)) (λ p n. k.clean p);
    debts = debts-alike (debts-left (reads b w) tt v) k.debts;
  }
  kept_move {h} (writes b w) {s} v k = record {
    clean = each (λ p e ws. OnClean (Legal (more h g) start c p) e) v.effect tt (λ p n. clean-more h g start c p (s.entry p) (λ y. absurd (n (sym y.1))) (k.clean p));
    debts = debts-written h c b w v k.debts;
  }
    where
      g : Event
      g = event_of c b (Action.Write w)
  kept_move {h} (acquires b) {s} v k = record {
    clean = each (λ p e ws. OnClean (Legal (more h g) start c p) e) v.effect (clean-acquire (Legal (more h g) start c b) (s.entry b)) (λ p n. clean-more h g start c p (s.entry p) (λ y. absurd (n (sym y.1))) (k.clean p));
    debts = debts-alike (debts-left (acquires b) tt v) (debts-more h g c (λ w is. write-not-acquire is.1 refl) (λ p y. inl refl) k.debts);
  }
    where
      g : Event
      g = event_of c b Action.Acquire
  kept_move {h} (releases b) {s} v k = record {
    clean = each (λ p e ws. OnClean (Legal (more h g) start c p) e) v.effect (clean-more h g start c b (s.entry b) (λ y. refl) (k.clean b)) (λ p n. clean-more h g start c p (s.entry p) (λ y. refl) (k.clean p));
    debts = debts-alike (debts-left (releases b) tt v) (debts-more h g c (λ w is. write-not-release is.1 refl) (λ p y. inr (ap (owes s) (sym y.1) ∙ release-settled v)) k.debts);
  }
    where
      g : Event
      g = event_of c b Action.Release
  kept_move {h} (writes_back b) {s} v k = record {
    clean = each (λ p e ws. OnClean (Legal h start c p) e) v.effect (clean_back (Legal h start c b) (s.entry b) (s.flight b) s.memory (debts-legal k.debts b) (k.clean b)) (λ p n. k.clean p);
    debts = debts-alike (debts-left (writes_back b) tt v) k.debts;
  }
  kept_move {h} (completes b w) {s} v k = record { clean = each (λ p e ws. OnClean (Legal h start c p) e) v.effect (k.clean b) (λ p n. k.clean p); debts = debts-completed b w v k.debts }
  kept_move {h} (ejects b) {s} v k = record { clean = each (λ p e ws. OnClean (Legal h start c p) e) v.effect tt (λ p n. k.clean p); debts = debts-alike (debts-left (ejects b) tt v) k.debts }
  kept_move {h} rests {s} v k = record { clean = λ p. subst (OnClean (Legal h start c p)) (sym (v.effect.entry p)) (k.clean p); debts = debts-alike (debts-left rests tt v) k.debts }

  pub run-kept : {h : List Event} {ms : List Move} {s : Cell} → Run c start h ms s → Kept h start c s
  run-kept (opens o) = kept-opening o
  run-kept (makes m r v) = kept_move m v (run-kept r)
  run-kept (elsewhere e far r v) = kept-elsewhere e far (kept_move rests v (run-kept r))

pub reads-legal : ReadsLegal
reads-legal c start b w h ms s t r v = subst (Legal h start c b) (sym v.guard) (kept-legal (run-kept c start r) b)

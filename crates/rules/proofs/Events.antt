-- The reads that answer a word and the events of a log are of boards and cells of the bench.
use Rattle.std.proofs.Common.{◌≡◌, ℕ, zero, suc, List, [], ◌∷◌, sym, refl, subst, arith}
use Rattle.std.proofs.ByRecursion.{All-append}
use Rattle.std.specs.List.{AllByRecursion}
use Rattle.model.specs.declared.answer.Answer.{Answer}
use Rattle.model.specs.declared.event.Event.{Event}
use Rattle.model.specs.declared.refusal.Refusal.{Refusal}
use Rattle.model.specs.declared.step.Step.{Step}
use Rattle.order.specs.Order.{At}
use Rattle.order.proofs.History.{none-not-some}
use Rattle.state.specs.States.{State}
use Rattle.state.proofs.Ways.{On, Way, refusing, reading, writing, acquiring, releasing, writing_back, ejecting, landing, idling, way}
use Rattle.rules.specs.Logs.{Logged, event_in, events, read_of}
use Rattle.rules.specs.Rules.{OnBench}
use Rattle.rules.proofs.Logged.{Reach, nothing, one, same-sizes, Taken}

on-there : {o s : State} {log : List Logged} {b c : ℕ} → Reach o log s → On s b c → OnBench o b c
on-there reached on = (omega (arith, on.board, (same-sizes reached).boards), omega (arith, on.cell, (same-sizes reached).cells))

-- ── a read that answers a word ──

read-way : {s t : State} {b c w : ℕ} → Way s (Step.Read b c) (Answer.Word w) t → On s b c
read-way (reading on guard puts) = on

pub read-there : {o : State} {older : List Logged} (b c w : ℕ) → Taken o older (read_of b c w) → OnBench o b c
read-there b c w x = on-there x.reached (read-way (way x.before x.after (Step.Read b c) (Answer.Word w) x.takes))

-- ── events ──

-- a refused step is no event
refused-silent : (x : Step) (r : Refusal) → event_in x (Answer.Refused r) ≡ []
refused-silent (Step.Read b d) r = refl
refused-silent (Step.Write b d w) r = refl
refused-silent (Step.Acquire b d) r = refl
refused-silent (Step.Release b d) r = refl
refused-silent (Step.WriteBack b d) r = refl
refused-silent (Step.Eject b d) r = refl
refused-silent Step.Land r = refl

module _ {o s : State} {log : List Logged} (reached : Reach o log s) where
  event-there : {t : State} {x : Step} {a : Answer} → Way s x a t → AllByRecursion (λ e. OnBench o e.board e.cell) (event_in x a)
  event-there {x = x} (refusing r barred) = subst (AllByRecursion (λ e. OnBench o e.board e.cell)) (sym (refused-silent x r)) tt
  event-there (reading on guard puts) = tt
  event-there (writing on puts) = (on-there reached on, tt)
  event-there (acquiring on guard puts) = (on-there reached on, tt)
  event-there (releasing on guard) = (on-there reached on, tt)
  event-there (writing_back on guard sends) = tt
  event-there (ejecting on guard sends) = tt
  event-there (landing first) = tt
  event-there idling = tt

pub all_there : {o s : State} {log : List Logged} → Reach o log s → AllByRecursion (λ e. OnBench o e.board e.cell) (events log)
all_there nothing = tt
all_there {o} (one {log = log} {s = s} {t = t} {x = x} reached takes) =
    All-append (λ e. OnBench o e.board e.cell) (events log) (event_in x.step x.answer) (all_there reached) (event-there reached (way s t x.step x.answer takes))

-- what holds of all events holds of that at each number
all-at : (P : Event → Type 0) (h : List Event) (n : ℕ) (e : Event) → AllByRecursion P h → At h n e → P e
all-at P [] n e all at = absurd (none-not-some at)
all-at P (f ∷ h) zero e all at = absurd (none-not-some at)
all-at P (f ∷ h) (suc zero) e all at = let is : f ≡ e = cc in subst P is all.0
all-at P (f ∷ h) (suc (suc n)) e all at = all-at P h (suc n) e all.1 at

pub events_there : {o s : State} {log : List Logged} → Reach o log s → (n : ℕ) (e : Event) → At (events log) n e → OnBench o e.board e.cell
events_there {o} {log = log} reached n e at = all-at (λ f. OnBench o f.board f.cell) (events log) n e (all_there reached) at

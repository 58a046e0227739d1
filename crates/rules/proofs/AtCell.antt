-- What a log is at one cell: a run of the protocol's machine there, within the history of the log.
use Rattle.std.proofs.Common.{◌≡◌, ℕ, ◌<◌, eqb, List, [], ◌∷◌, ◌++◌, length, sym, refl, ap, ◌∙◌, subst, arith}
use Rattle.std.proofs.lemmas.List.{append-nil}
use Rattle.std.proofs.lemmas.Bool.{cond_both, eqb-true, eqb-false}
use Rattle.model.specs.declared.answer.Answer.{Answer}
use Rattle.model.specs.declared.event.Action.{Action}
use Rattle.model.specs.declared.event.Event.{Event}
use Rattle.model.specs.declared.refusal.Refusal.{Refusal}
use Rattle.model.specs.declared.step.Step.{Step}
use Rattle.order.specs.Order.{more}
use Rattle.protocol.specs.Machine.{Cell, Move, reads, writes, acquires, releases, writes_back, completes, ejects, rests, Moves}
use Rattle.protocol.specs.Runs.{Opening, event_of, noting, Run, opens, makes, elsewhere}
use Rattle.state.specs.Cells.{project, on_cell, move_at}
use Rattle.state.specs.Sound.{Sound}
use Rattle.state.specs.States.{State}
use Rattle.state.proofs.Protocol.{follows}
use Rattle.state.proofs.Ways.{Way, refusing, reading, writing, acquiring, releasing, writing_back, ejecting, landing, idling, way}
use Rattle.rules.specs.Logs.{Logged, event_in, events, moves}
use Rattle.rules.proofs.Logged.{Reach, nothing, one, sound-reached, same-sizes}

module _ (c start : ℕ) {h : List Event} {ms : List Move} {u v : Cell} (before : Run c start h ms u) where
  -- a move that is no event
  silent : (m : Move) → noting c m h ≡ h → Moves m u v → Run c start (h ++ []) (m ∷ ms) v
  silent m none moved = subst (λ l. Run c start l (m ∷ ms) v) (none ∙ sym (append-nil h)) (makes m before moved)

  -- such a move on the cell d
  silent-on : (d : ℕ) (m : Move) → noting c m h ≡ h → Moves (on_cell c d m) u v → Run c start (h ++ []) (on_cell c d m ∷ ms) v
  silent-on d m none = silent (on_cell c d m) (cond_both (eqb d c) m rests (λ n. noting c n h ≡ h) (λ _. none) (λ _. refl))

  -- a move on the cell d that is an event
  event-on : (d b : ℕ) (a : Action) (m : Move) → noting c m h ≡ more h (event_of c b a) → Moves (on_cell c d m) u v → Run c start (more h (event_of d b a)) (on_cell c d m ∷ ms) v
  event-on d b a m noted =
      cond_both (eqb d c) m rests (λ n. Moves n u v → Run c start (more h (event_of d b a)) (n ∷ ms) v)
      (λ same moved. subst (λ l. Run c start l (m ∷ ms) v) (noted ∙ ap (λ e. more h (event_of e b a)) (sym (eqb-true d c same))) (makes m before moved))
      (λ other moved. elsewhere (event_of d b a) (eqb-false d c other) before moved)

  -- a refused step
  refused-here : (x : Step) (r : Refusal) → Moves (move_at c x (Answer.Refused r)) u v → Run c start (h ++ event_in x (Answer.Refused r)) (move_at c x (Answer.Refused r) ∷ ms) v
  refused-here (Step.Read b d) r = silent-on d rests refl
  refused-here (Step.Write b d w) r = silent-on d rests refl
  refused-here (Step.Acquire b d) r = silent-on d rests refl
  refused-here (Step.Release b d) r = silent-on d rests refl
  refused-here (Step.WriteBack b d) r = silent-on d rests refl
  refused-here (Step.Eject b d) r = silent-on d rests refl
  refused-here Step.Land r = silent rests refl

  -- a step, whichever way it goes
  step-here : {s t : State} {x : Step} {a : Answer} → Way s x a t → Moves (move_at c x a) u v → Run c start (h ++ event_in x a) (move_at c x a ∷ ms) v
  step-here {x = x} (refusing r barred) = refused-here x r
  step-here (reading {b = b} {c = d} {w = w} on guard puts) = silent-on d (reads b w) refl
  step-here (writing {b = b} {c = d} {w = w} on puts) = event-on d b (Action.Write w) (writes b w) refl
  step-here (acquiring {b = b} {c = d} on guard puts) = event-on d b Action.Acquire (acquires b) refl
  step-here (releasing {b = b} {c = d} on guard) = event-on d b Action.Release (releases b) refl
  step-here (writing_back {b = b} {c = d} on guard sends) = silent-on d (writes_back b) refl
  step-here (ejecting {b = b} {c = d} on guard sends) = silent-on d (ejects b) refl
  step-here (landing {x = x} first) = silent-on x.cell (completes x.board x.word) refl
  step-here idling = silent rests refl

-- the whole log
module _ (o : State) (sound : Sound o) (c start : ℕ) (in' : c < length o.words) (opening : Opening start (project c o)) where
  pub run_of : {s : State} {log : List Logged} → Reach o log s → Run c start (events log) (moves c log) (project c s)
  run_of nothing = opens opening
  run_of (one {s = s} {t = t} {x = x} reached takes) =
      step-here c start (run_of reached) (way s t x.step x.answer takes)
      (follows s t x.step x.answer takes (sound-reached sound reached) c (omega (arith, (same-sizes reached).cells)))

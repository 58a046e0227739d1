-- A log of an opened bench keeps the memory model: at each cell it is a run of the protocol's machine.
use Rattle.std.proofs.Common.{◌≡◌, ℕ, ◌<◌, eqb, List, ◌∷◌, ◌++◌, length, refl, subst, arith}
use Rattle.std.proofs.lemmas.Bool.{cond-true, eq-eqb}
use Rattle.model.specs.declared.answer.Answer.{Answer}
use Rattle.model.specs.declared.carry.Carry.{Carry}
use Rattle.model.specs.declared.event.Event.{Event}
use Rattle.model.specs.declared.step.Step.{Step}
use Rattle.order.specs.Order.{At}
use Rattle.carries.specs.Lines.{Proper}
use Rattle.protocol.specs.Machine.{Cell, Moves, reads, rests}
use Rattle.protocol.specs.Rules.{DisciplinedAt}
use Rattle.protocol.specs.Runs.{Run, OwnersOnly}
use Rattle.protocol.proofs.Keeps.{protocol-keeps-model}
use Rattle.protocol.proofs.Owned.{run-disciplined}
use Rattle.state.specs.Cells.{project, move_at}
use Rattle.state.specs.Opening.{opened}
use Rattle.state.specs.States.{State}
use Rattle.state.proofs.Opened.{sound-opened}
use Rattle.state.proofs.Protocol.{follows}
use Rattle.rules.specs.Logs.{Logged, events, moves, read_of}
use Rattle.rules.specs.Rules.{OnBench, start_of, KeepsModel}
use Rattle.rules.proofs.AtCell.{run_of}
use Rattle.rules.proofs.Events.{read-there, all_there, events_there}
use Rattle.rules.proofs.Logged.{Reach, sound-reached, same-sizes, taken}
use Rattle.rules.proofs.Opening.{opening_of}

-- a read of its own cell is the machine's
here : (b c w : ℕ) → move_at c (Step.Read b c) (Answer.Word w) ≡ reads b w
here b c w = cond-true (eqb c c) (reads b w) rests (eq-eqb c c refl)

module _ (boards entries : ℕ) (words : List ℕ) (lines : List (List Carry)) (long : ℕ) (proper : Proper long lines) where
  abbrev bench : State
  bench = opened boards entries words lines long

  abbrev start : ℕ → ℕ
  start = start_of bench

  -- the log at a cell of the bench
  pub run_at : {s : State} {log : List Logged} (c : ℕ) → 0 < bench.boards → c < length bench.words → Reach bench log s → Run c (start c) (events log) (moves c log) (project c s)
  run_at c some there = run_of bench (sound-opened boards entries words lines long proper) c (start c) there (opening_of boards entries words lines long some c)

  -- a read of the log, at its cell
  record ReadAt (older : List Logged) (b c w : ℕ) : Type 0 where
    there : OnBench bench b c
    before : Cell
    after : Cell
    run : Run c (start c) (events older) (moves c older) before
    read : Moves (reads b w) before after

  read_at : {s : State} {log : List Logged} → Reach bench log s → (later older : List Logged) (b c w : ℕ) → log ≡ later ++ read_of b c w ∷ older → ReadAt older b c w
  read_at {s} reached later older b c w is =
      let x = taken later older (read_of b c w) (subst (λ l. Reach bench l s) is reached) in
      let there = read-there b c w x in
      let sound = sound-reached (sound-opened boards entries words lines long proper) x.reached in
      let moved = follows x.before x.after (Step.Read b c) (Answer.Word w) x.takes sound c (omega (arith, there.1, (same-sizes x.reached).cells)) in
      record {
        there = there;
        before = project c x.before;
        after = project c x.after;
        run = run_at c (omega (arith, there.0)) there.1 x.reached;
        read = subst (λ m. Moves m (project c x.before) (project c x.after)) (here b c w) moved;
      }

  pub keeps_model : {s : State} {log : List Logged} → Reach bench log s → KeepsModel bench log
  keeps_model {log = log} reached =
      record {
        reads_there = λ later older b c w is. (read_at reached later older b c w is).there;
        events_there = all_there reached;
        legal = λ later older b c w is.
            let x = read_at reached later older b c w is in
            protocol-keeps-model.legal c (start c) b w (events older) (moves c older) x.before x.after x.run x.read;
        last = λ later older b c w is only.
            let x = read_at reached later older b c w is in
            protocol-keeps-model.last c (start c) b w (events older) (moves c older) x.before x.after x.run x.read
            (subst (λ m. OwnersOnly (m ∷ moves c older)) (here b c w) only);
        six_steps = λ later older p q c w is apart first_five.
            let x = read_at reached later older q c w is in
            protocol-keeps-model.six_steps c (start c) p q w (events older) (moves c older) x.before x.after apart x.run first_five x.read;
        owners = record { acquires = λ n e at is. (at_cell n e at).acquires n e at (refl, is); releases = λ n e at is. (at_cell n e at).releases n e at (refl, is) };
      }
    where
      -- the history keeps to ownership at the cell of each event
      at_cell : (n : ℕ) (e : Event) → At (events log) n e → DisciplinedAt (events log) e.cell
      at_cell n e at = let there = events_there reached n e at in run-disciplined (run_at e.cell (omega (arith, there.0)) there.1 reached)

-- Runs of the machine at one cell, within a history of the events on all cells.
use Rattle.std.specs.Prelude.{◌≡◌, ℕ, List, [], ◌∷◌, Some, None, Option, ◌≢◌}
use Rattle.model.specs.declared.entry.Entry.{Entry}
use Rattle.model.specs.declared.event.Action.{Action}
use Rattle.model.specs.declared.event.Event.{Event}
use Rattle.order.specs.Order.{more}
use Rattle.protocol.specs.Machine.{Cell, Move, reads, writes, acquires, releases, writes_back, completes, ejects, rests, Moves}

-- The cell before the first move: nothing cached, nothing in flight, no owner, and its starting word in memory.
pub record Opening (start : ℕ) (s : Cell) : Type 0 where
  pub entry : (p : ℕ) → s.entry p ≡ Entry.Invalid
  pub flight : (p : ℕ) → s.flight p ≡ []
  pub owner : s.owner ≡ None
  pub memory : s.memory ≡ start

abbrev pub event_of : (c b : ℕ) → Action → Event
event_of c b a = record { board = b; cell = c; action = a }

-- The history after a move at the cell c: writes, acquires and releases are events, and the other moves are none.
abbrev pub noting : (c : ℕ) → Move → List Event → List Event
noting c (reads b w) h = h
noting c (writes b w) h = more h (event_of c b (Action.Write w))
noting c (acquires b) h = more h (event_of c b Action.Acquire)
noting c (releases b) h = more h (event_of c b Action.Release)
noting c (writes_back b) h = h
noting c (completes b w) h = h
noting c (ejects b) h = h
noting c rests h = h

-- From the opening of the cell c with the word start, the machine made the moves ms, newest first, and came to the state s.
-- The history h has the events of these moves in their order, and events of other cells anywhere among them.
pub data Run (c start : ℕ) : (h : List Event) (ms : List Move) (s : Cell) → Type 0 where
  opens : {s : Cell} → Opening start s → Run c start [] [] s
  makes : {h : List Event} {ms : List Move} {s t : Cell} (m : Move) → Run c start h ms s → Moves m s t → Run c start (noting c m h) (m ∷ ms) t
  -- something happens on another cell, and here the machine rests
  elsewhere : {h : List Event} {ms : List Move} {s t : Cell} (e : Event) → (e.cell ≢ c) → Run c start h ms s → Moves rests s t → Run c start (more h e) (rests ∷ ms) t

-- ── what the moves tell ──

-- Who owns the cell after the moves: the board of the last acquire, if no release follows it.
abbrev pub owning : Move → Option ℕ → Option ℕ
owning (reads b w) o = o
owning (writes b w) o = o
owning (acquires b) o = Some b
owning (releases b) o = None
owning (writes_back b) o = o
owning (completes b w) o = o
owning (ejects b) o = o
owning rests o = o

abbrev pub owner_in : List Move → Option ℕ
owner_in [] = None
owner_in (m ∷ ms) = owning m (owner_in ms)

-- If the move is a read or a write, it is by the owner o.
abbrev pub ByOwner : Option ℕ → Move → Type 0
ByOwner o (reads b w) = o ≡ Some b
ByOwner o (writes b w) = o ≡ Some b
ByOwner o (acquires b) = Unit {0}
ByOwner o (releases b) = Unit {0}
ByOwner o (writes_back b) = Unit {0}
ByOwner o (completes b w) = Unit {0}
ByOwner o (ejects b) = Unit {0}
ByOwner o rests = Unit {0}

-- Every read and write among the moves was by the board that owned the cell at that moment.
abbrev pub OwnersOnly : List Move → Type 0
OwnersOnly [] = Unit {0}
OwnersOnly (m ∷ ms) = ByOwner (owner_in ms) m × OwnersOnly ms

-- The reads, writes, acquires and releases among the moves, newest first.
abbrev pub touching : Move → List Move → List Move
touching (reads b w) ms = reads b w ∷ ms
touching (writes b w) ms = writes b w ∷ ms
touching (acquires b) ms = acquires b ∷ ms
touching (releases b) ms = releases b ∷ ms
touching (writes_back b) ms = ms
touching (completes b w) ms = ms
touching (ejects b) ms = ms
touching rests ms = ms

abbrev pub touches : List Move → List Move
touches [] = []
touches (m ∷ ms) = touching m (touches ms)

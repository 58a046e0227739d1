-- What the protocol keeps of the memory model at one cell, for every run of the machine.
use Rattle.std.specs.Prelude.{◌≡◌, ℕ, List, [], ◌∷◌, ◌≢◌}
use Rattle.model.specs.declared.event.Action.{Action}
use Rattle.model.specs.declared.event.Event.{Event}
use Rattle.order.specs.Order.{At, next, WriteOf, AcquireOf, ReleaseOf, NoneBetween, Latest, Point, initial_write, event, Brings, Readable, Legal, Owns}
use Rattle.order.specs.Test.{owner_of}
use Rattle.protocol.specs.Machine.{Cell, Move, reads, writes, acquires, releases, writes_back, completes, ejects, rests, Guard, Moves}
use Rattle.protocol.specs.Runs.{event_of, Run, owner_in, OwnersOnly, touches}

-- A move asks for nothing but its guard: where that holds, it can be made.
abbrev pub GuardedMovesHappen : Type 0
GuardedMovesHappen = (m : Move) (s : Cell) → Guard m s → (t : Cell) × Moves m s t

-- ── reads ──

-- A read answers a word that some readable write brings.
abbrev pub ReadsLegal : Type 0
ReadsLegal = (c start b w : ℕ) (h : List Event) (ms : List Move) (s t : Cell) → Run c start h ms s → Moves (reads b w) s t → Legal h start c b w

-- ── ownership ──

-- Each acquire finds the cell without an owner, and each release of it is by the owner.
pub record DisciplinedAt (h : List Event) (c : ℕ) : Type 0 where
  pub acquires : (n : ℕ) (e : Event) → At h n e → AcquireOf c e → (b : ℕ) → Owns h c b n → ⊥
  pub releases : (n : ℕ) (e : Event) → At h n e → ReleaseOf c e → Owns h c e.board n

-- The machine's owner and the owner by the moves are the owner by the history, and the history keeps to ownership.
pub record OwnersAgree (c : ℕ) (h : List Event) (ms : List Move) (s : Cell) : Type 0 where
  pub machine : s.owner ≡ owner_of h c
  pub moves : owner_in ms ≡ owner_of h c
  pub disciplined : DisciplinedAt h c

abbrev pub OwnersKept : Type 0
OwnersKept = (c start : ℕ) (h : List Event) (ms : List Move) (s : Cell) → Run c start h ms s → OwnersAgree c h ms s

-- ── the owner reads the last write ──

abbrev pub AnyWriteOf : (c : ℕ) → Event → Type 0
AnyWriteOf c e = (w : ℕ) × WriteOf c w e

-- the last write of the cell c, the initial one if no event is
pub data LastWrite (h : List Event) (c : ℕ) : Point → Type 0 where
  some_write : {n : ℕ} → Latest h (AnyWriteOf c) (next h) n → LastWrite h c (event n)
  no_write : NoneBetween h (AnyWriteOf c) 0 (next h) → LastWrite h c initial_write

-- The word w is that of the last write of the cell, and exactly that write is readable for the board b.
pub record ReadsLast (h : List Event) (start c b w : ℕ) : Type 0 where
  pub write : Point
  pub last : LastWrite h c write
  pub brings : Brings h start c write w
  pub readable : Readable h c b write
  pub only : (x : Point) → Readable h c b x → x ≡ write

-- Where every read and write so far came from the owner, this read with them, it answers the last write.
abbrev pub OwnerReadsLast : Type 0
OwnerReadsLast = (c start b w : ℕ) (h : List Event) (ms : List Move) (s t : Cell) → Run c start h ms s → Moves (reads b w) s t → OwnersOnly (reads b w ∷ ms) → ReadsLast h start c b w

-- ── six steps ──

-- p acquires, writes 1 and releases; q writes 2 and acquires (newest first)
abbrev pub first_five : (p q : ℕ) → List Move
first_five p q = acquires q ∷ writes q 2 ∷ releases p ∷ writes p 1 ∷ acquires p ∷ []

-- the write of the word w by the board p is readable for q
pub record ReadableOf (h : List Event) (c p q w : ℕ) : Type 0 where
  pub number : ℕ
  pub written : Event
  pub stands : At h number written
  pub write : WriteOf c w written
  pub board : written.board ≡ p
  pub readable : Readable h c q (event number)

-- When q reads after these five, it reads 2, though the write of 1 is readable for it.
abbrev pub SixSteps : Type 0
SixSteps = (c start p q w : ℕ) (h : List Event) (ms : List Move) (s t : Cell) → (p ≢ q) → Run c start h ms s → touches ms ≡ first_five p q → Moves (reads q w) s t → (w ≡ 2) × ReadableOf h c p q 1

-- ── runs that meet what the rules ask for ──

-- The machine can make these moves, with this history, and then the read.
pub record Happens (c start : ℕ) (h : List Event) (ms : List Move) (b w : ℕ) : Type 0 where
  pub state : Cell
  pub after : Cell
  pub run : Run c start h ms state
  pub read : Moves (reads b w) state after

-- Board 0 acquires, writes 1, reads it and releases, and board 1 acquires: each move by the owner.
abbrev pub owned_history : List Event
owned_history = event_of 0 0 Action.Acquire ∷ event_of 0 0 (Action.Write 1) ∷ event_of 0 0 Action.Release ∷ event_of 0 1 Action.Acquire ∷ []

abbrev pub owned_moves : List Move
owned_moves = acquires 1 ∷ releases 0 ∷ completes 0 1 ∷ ejects 0 ∷ reads 0 1 ∷ writes 0 1 ∷ acquires 0 ∷ []

-- The six steps of the boards 0 and 1 on cell 0, with what they need between them, while board 1 writes cell 1.
abbrev pub six_history : List Event
six_history = event_of 0 0 Action.Acquire ∷ event_of 0 0 (Action.Write 1) ∷ event_of 1 1 (Action.Write 3) ∷ event_of 0 0 Action.Release ∷ event_of 0 1 (Action.Write 2) ∷ event_of 0 1 Action.Acquire ∷ []

abbrev pub six_moves : List Move
six_moves = acquires 1 ∷ writes 1 2 ∷ releases 0 ∷ completes 0 1 ∷ rests ∷ writes_back 0 ∷ writes 0 1 ∷ acquires 0 ∷ []

pub record RulesHappen : Type 0 where
  pub owners : Happens 0 0 owned_history owned_moves 1 1
  pub owners_only : OwnersOnly (reads 1 1 ∷ owned_moves)
  pub six : Happens 0 0 six_history six_moves 1 2
  pub first_five : touches six_moves ≡ first_five 0 1

-- ── all of it ──

pub record ProtocolKeepsModel : Type 0 where
  pub guarded : GuardedMovesHappen
  pub legal : ReadsLegal
  pub owners : OwnersKept
  pub last : OwnerReadsLast
  pub six_steps : SixSteps
  pub happen : RulesHappen

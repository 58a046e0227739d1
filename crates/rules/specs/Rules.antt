-- The rules on reads, over every list of calls of a bench from any opening.
use Rattle.std.specs.Prelude.{◌≡◌, ℕ, ◌<◌, List, ◌∷◌, ◌++◌, length, Some, None, Result, ◌≢◌, slice_index}
use Rattle.std.specs.List.{AllByRecursion}
use Rattle.model.specs.declared.answer.Answer.{Answer}
use Rattle.model.specs.declared.carry.Carry.{Carry}
use Rattle.model.specs.declared.refusal.Refusal.{Refusal}
use Rattle.model.specs.declared.step.Step.{Step}
use Rattle.order.specs.Order.{Legal, Disciplined}
use Rattle.carries.specs.Lines.{Proper}
use Rattle.protocol.specs.Rules.{ReadsLast, ReadableOf, first_five}
use Rattle.protocol.specs.Runs.{Run, OwnersOnly, touches}
use Rattle.state.specs.Cells.{project, Follows}
use Rattle.state.specs.Laws.{SameSizes}
use Rattle.state.specs.Opening.{opened}
use Rattle.state.specs.Reasons.{Barred}
use Rattle.state.specs.Runs.{Ran}
use Rattle.state.specs.States.{State}
use Rattle.state.specs.Steps.{Takes}
use Rattle.rules.specs.Calls.{Call, Since, log_of}
use Rattle.rules.specs.Logs.{Logged, events, moves, read_of}

-- ── a log ──

-- a board and a cell that the bench has
abbrev pub OnBench : State → (b c : ℕ) → Type 0
OnBench o b c = (b < o.boards) × (c < length o.words)

-- the home's word at opening
abbrev pub start_of : State → ℕ → ℕ
start_of o c = slice_index o.words c

-- Whatever read stands in the log of a bench that was opened as o: what is older than the read tells which writes are
-- readable, and who owns the cell.
pub record KeepsModel (o : State) (log : List Logged) : Type 0 where
  -- Reads that answer a word, and events, are of boards and cells of the bench.
  pub reads_there : (later older : List Logged) (b c w : ℕ) → log ≡ later ++ read_of b c w ∷ older → OnBench o b c
  pub events_there : AllByRecursion (λ e. OnBench o e.board e.cell) (events log)
  -- A read answers the word of some write of the cell that is readable for its board.
  pub legal : (later older : List Logged) (b c w : ℕ) → log ≡ later ++ read_of b c w ∷ older → Legal (events older) (start_of o c) c b w
  -- If every accepted read and write of the cell so far, this read with them, came from its owner at that step, the read
  -- answers the word of the last accepted write, the starting word if there is none, and that write alone is readable.
  pub last : (later older : List Logged) (b c w : ℕ) → log ≡ later ++ read_of b c w ∷ older → OwnersOnly (moves c (read_of b c w ∷ older)) → ReadsLast (events older) (start_of o c) c b w
  -- The six steps: p acquires, writes 1 and releases; q writes 2, acquires and reads. If no other read, write, acquire or
  -- release of the cell was accepted, the read answers 2, though the write of 1 is readable for q.
  pub six_steps : (later older : List Logged) (p q c w : ℕ) → log ≡ later ++ read_of q c w ∷ older → (p ≢ q) → touches (moves c older) ≡ first_five p q → (w ≡ 2) × ReadableOf (events older) c p q 1
  -- Each accepted acquire found its cell without an owner, and each accepted release was by the owner.
  pub owners : Disciplined (events log)

-- ── a state that calls lead to ──

pub record GoesOn (s : State) : Type 0 where
  -- every further call has an answer, refused or not
  pub step_answered : (x : Step) → (a : Answer) × (t : State) × Takes s x a t
  pub run_answered : (xs : List Step) (before : List Answer) → (r : Result (Unit {0}) Refusal) × (after : List Answer) × (t : State) × Ran s xs before r after t
  -- at each cell a step is the protocol's move of that name, or none
  pub protocol : (x : Step) (a : Answer) (t : State) → Takes s x a t → Follows s x a t
  -- a refused step changes nothing, and is refused by a limit of the bench or because the protocol does not allow the move
  pub refused : (x : Step) (r : Refusal) (t : State) → Takes s x (Answer.Refused r) t → (t ≡ s) × Barred s x r

-- a bench whose opening was refused refuses every step with 1
abbrev pub RefusesAll : (o s : State) → Type 0
RefusesAll o s = (r : Refusal) → o.refusal ≡ Some r → (x : Step) (a : Answer) (t : State) → Takes s x a t → a ≡ Answer.Refused Refusal.NoSuchBoard

-- ── every list of calls ──

pub record Holds (o : State) (calls : List Call) (s : State) : Type 0 where
  pub model : KeepsModel o (log_of calls)
  -- at each cell of an accepted bench the calls were a run of the protocol's machine, which is now as the bench is there
  pub machine : (c : ℕ) → o.refusal ≡ None → c < length o.words → Run c (start_of o c) (events (log_of calls)) (moves c (log_of calls)) (project c s)
  pub sizes : SameSizes o s
  pub goes_on : GoesOn s
  pub refused_opening : RefusesAll o s

-- from any opening, over any words and any lines that a path may have, accepted or refused
abbrev pub OverAllCalls : Type 0
OverAllCalls =
    (boards entries : ℕ) (words : List ℕ) (lines : List (List Carry)) (long : ℕ) → Proper long lines
    → (calls : List Call) (s : State) → Since (opened boards entries words lines long) calls s → Holds (opened boards entries words lines long) calls s

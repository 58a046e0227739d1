-- A run of a list of steps whose answers are put into a list, and what the steps do to the path on the way.
use Rattle.std.specs.Prelude.{◌≡◌, ℕ, ◌<◌, ◌≤◌, cond, ◌&&◌, List, [], ◌∷◌, length, take, drop, Some, None, Ok, Err, Option, Result, nat_lt}
use Rattle.model.specs.declared.answer.Answer.{Answer}
use Rattle.model.specs.declared.carry.Carry.{Carry}
use Rattle.model.specs.declared.entry.Entry.{Entry}
use Rattle.model.specs.declared.refusal.Refusal.{Refusal}
use Rattle.model.specs.declared.step.Step.{Step}
use Rattle.cache.specs.Places.{entry_in}
use Rattle.state.specs.Chains.{Chain}
use Rattle.state.specs.States.{State, cells_of, cache_of}
use Rattle.state.specs.Steps.{Takes, carry_of}

-- ── what is answered ──

-- Every step in turn, from s to t: one answer for each stands at the front of the list, and what stood behind is there still.
pub record RanAll (s : State) (calls : List Step) (before after : List Answer) (t : State) : Type 0 where
  pub room : length calls ≤ length before
  pub chain : Chain s calls (take (length calls) after) t
  pub rest : drop (length calls) after ≡ drop (length calls) before

-- The list of answers is the shorter: nothing happens.
pub record RanNone (s : State) (calls : List Step) (before : List Answer) (r : Refusal) (after : List Answer) (t : State) : Type 0 where
  pub short : length before < length calls
  pub refusal : r ≡ Refusal.AnswersTooShort
  pub answers : after ≡ before
  pub state : t ≡ s

-- From s a run of the steps, with a list that held `before`, answers so, and leaves the list at `after` and the bench at t.
abbrev pub Ran : State → List Step → (before : List Answer) → Result (Unit {0}) Refusal → (after : List Answer) → State → Type 0
Ran s calls before (Ok u) after t = RanAll s calls before after t
Ran s calls before (Err r) after t = RanNone s calls before r after t

-- ── what is sent to the path and lands from it ──

pub data Traffic : Type 0 where
  none : Traffic
  -- a carry is given to the path, which takes or refuses it
  starts : Carry → Traffic
  -- the path lands a carry, or says that nothing waits
  lands : Option Carry → Traffic

abbrev pub sent_from : ℕ → ℕ → Entry → Traffic
sent_from b c Entry.Invalid = none
sent_from b c (Entry.Clean w) = none
sent_from b c (Entry.Dirty w) = starts (carry_of b c w)

-- the dirty word of a board and a cell that the bench has is sent
abbrev pub sent_of : State → ℕ → ℕ → Traffic
sent_of s b c = cond (nat_lt b s.boards && nat_lt c (cells_of s)) (sent_from b c (entry_in (cache_of s b) c)) none

abbrev pub landed_in : Answer → Traffic
landed_in (Answer.Landed x) = lands (Some x)
landed_in Answer.NothingWaits = lands None
landed_in (Answer.Word w) = none
landed_in Answer.Done = none
landed_in (Answer.Refused r) = none

-- what a step, taken in s and answered so, sends to the path or lands from it (a read or a release may look at the path, too,
-- which leaves it as it is)
abbrev pub traffic_of : State → Step → Answer → Traffic
traffic_of s (Step.Read b c) a = none
traffic_of s (Step.Write b c w) a = none
traffic_of s (Step.Acquire b c) a = none
traffic_of s (Step.Release b c) a = none
traffic_of s (Step.WriteBack b c) a = sent_of s b c
traffic_of s (Step.Eject b c) a = sent_of s b c
traffic_of s Step.Land a = landed_in a

-- What becomes of the path itself, by what its kind says of a start and of a landing.
abbrev pub Carries : {P : Type 0} → (P → Carry → P → Type 0) → (P → Option Carry → P → Type 0) → P → Traffic → P → Type 0
Carries Starts Lands p none q = q ≡ p
Carries Starts Lands p (starts x) q = Starts p x q
Carries Starts Lands p (lands o) q = Lands p o q

-- A chain of steps together with the path: at each step it changes by what the step sends or lands, as its kind says.
pub data Course {P : Type 0} (Starts : P → Carry → P → Type 0) (Lands : P → Option Carry → P → Type 0) : State → P → List Step → List Answer → State → P → Type 0 where
  end : {s : State} {p : P} → Course Starts Lands s p [] [] s p
  link : {s t u : State} {p q r : P} {call : Step} {calls : List Step} {answer : Answer} {answers : List Answer}
      → Takes s call answer t → Carries Starts Lands p (traffic_of s call answer) q → Course Starts Lands t q calls answers u r
      → Course Starts Lands s p (call ∷ calls) (answer ∷ answers) u r

-- What a run does to the path.
abbrev pub Went : {P : Type 0} → (P → Carry → P → Type 0) → (P → Option Carry → P → Type 0) → State → P → List Step → Result (Unit {0}) Refusal → List Answer → State → P → Type 0
Went Starts Lands s p calls (Ok u) answers t q = Course Starts Lands s p calls (take (length calls) answers) t q
Went Starts Lands s p calls (Err r) answers t q = q ≡ p

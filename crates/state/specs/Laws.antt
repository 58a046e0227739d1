-- What holds of every step, whatever the choice that gives its answer.
use Rattle.std.specs.Prelude.{◌≡◌, ℕ, List, length}
use Rattle.model.specs.declared.answer.Answer.{Answer}
use Rattle.model.specs.declared.carry.Carry.{Carry}
use Rattle.model.specs.declared.refusal.Refusal.{Refusal}
use Rattle.model.specs.declared.step.Step.{Step}
use Rattle.carries.specs.Lines.{Proper}
use Rattle.state.specs.Cells.{Follows}
use Rattle.state.specs.Chains.{Chain}
use Rattle.state.specs.Opening.{opened}
use Rattle.state.specs.Reasons.{Barred}
use Rattle.state.specs.Sound.{Sound}
use Rattle.state.specs.States.{State}
use Rattle.state.specs.Steps.{Takes}

-- a bench is sound when it is opened, accepted or refused
abbrev pub OpenedSound : Type 0
OpenedSound = (b e : ℕ) (ws : List ℕ) (ls : List (List Carry)) (n : ℕ) → Proper n ls → Sound (opened b e ws ls n)

-- and stays so
abbrev pub SoundKept : Type 0
SoundKept = (s t : State) (call : Step) (a : Answer) → Takes s call a t → Sound s → Sound t

-- no step changes how the bench was opened, how many boards, entries and cells it has, or the length of its lines
pub record SameSizes (s t : State) : Type 0 where
  pub refusal : t.refusal ≡ s.refusal
  pub boards : t.boards ≡ s.boards
  pub entries : t.entries ≡ s.entries
  pub long : t.long ≡ s.long
  pub cells : length t.words ≡ length s.words

abbrev pub SizesKept : Type 0
SizesKept = (s t : State) (call : Step) (a : Answer) → Takes s call a t → SameSizes s t

-- at each cell a step is the protocol's move
abbrev pub FollowsProtocol : Type 0
FollowsProtocol = (s t : State) (call : Step) (a : Answer) → Takes s call a t → Sound s → Follows s call a t

-- every step has an answer, and so has every list of steps
abbrev pub AlwaysAnswered : Type 0
AlwaysAnswered = (s : State) (call : Step) → Sound s → (a : Answer) × (t : State) × Takes s call a t

abbrev pub ListsAnswered : Type 0
ListsAnswered = (s : State) (calls : List Step) → Sound s → (answers : List Answer) × (t : State) × Chain s calls answers t

-- a refused step changes nothing
abbrev pub RefusedKeeps : Type 0
RefusedKeeps = (s t : State) (call : Step) (r : Refusal) → Takes s call (Answer.Refused r) t → t ≡ s

-- and it is refused only by a limit of the bench, or where the protocol does not allow the move
abbrev pub RefusedRightly : Type 0
RefusedRightly = (s t : State) (call : Step) (r : Refusal) → Takes s call (Answer.Refused r) t → Sound s → Barred s call r

-- a bench without boards, as a refused one is, refuses every step
abbrev pub NoBoardsRefuse : Type 0
NoBoardsRefuse = (s t : State) (call : Step) (a : Answer) → Takes s call a t → s.boards ≡ 0 → a ≡ Answer.Refused Refusal.NoSuchBoard

pub record StepLaws : Type 0 where
  pub opened : OpenedSound
  pub sound : SoundKept
  pub sizes : SizesKept
  pub protocol : FollowsProtocol
  pub answered : AlwaysAnswered
  pub lists_answered : ListsAnswered
  pub refused_keeps : RefusedKeeps
  pub refused_rightly : RefusedRightly
  pub no_boards : NoBoardsRefuse

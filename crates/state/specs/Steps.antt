-- What each step answers, and the state that it leaves.
use Rattle.std.specs.Prelude.{◌≡◌, ℕ, Bool, true, false, cond, ◌||◌, List, is_some, Some, None, Ok, Err, Option, Result, ◌==◌, nat_lt, slice_set}
use Rattle.model.specs.declared.answer.Answer.{Answer}
use Rattle.model.specs.declared.carry.Carry.{Carry}
use Rattle.model.specs.declared.entry.Entry.{Entry}
use Rattle.model.specs.declared.refusal.Refusal.{Refusal}
use Rattle.model.specs.declared.step.Step.{Step}
use Rattle.home.specs.Words.{written}
use Rattle.carries.specs.Lines.{line, lane, oldest, newest, without, start_at, started}
use Rattle.cache.specs.declared.place.Place.{Place}
use Rattle.cache.specs.Places.{entry_in, taken_in, store_in}
use Rattle.state.specs.Opening.{quiet}
use Rattle.state.specs.States.{State, cells_of, cache_of, owner_of, word_of, with_cache, with_owner, with_words, with_lines, with_entry}

-- What the rules leave open: the empty place that a new entry takes, and the lane that lands.
pub record Choice : Type 0 where
  pub place : ℕ
  pub board : ℕ
  pub cell : ℕ

-- The answer and the state after it; none where the choice is not open.
abbrev pub Outcome : Type 0
Outcome = Option (Answer × State)

abbrev pub refuse : Refusal → State → Outcome
refuse r s = Some (Answer.Refused r, s)

abbrev pub done : State → Outcome
done s = Some (Answer.Done, s)

-- a step of a board on a cell checks the board, then the cell
abbrev pub checked : State → ℕ → ℕ → Outcome → Outcome
checked s b c go = cond (nat_lt b s.boards) (cond (nat_lt c (cells_of s)) go (refuse Refusal.NoSuchCell s)) (refuse Refusal.NoSuchBoard s)

-- a new entry takes an empty place, if the board may have one more
abbrev pub kept : State → ℕ → Answer → Option (List Place) → Outcome
kept s b a (Some ps) = Some (a, with_cache s b ps)
kept s b a None = None

abbrev pub new_entry : Choice → State → ℕ → ℕ → Answer → Entry → Outcome
new_entry k s b c a e = cond (nat_lt (taken_in (cache_of s b)) s.entries) (kept s b a (store_in k.place (cache_of s b) c e)) (refuse Refusal.CacheFull s)

-- read: the newest word of the board's own lane, or else the home's, where the cell is not cached
abbrev pub carried : Option Carry → ℕ → ℕ
carried (Some x) w = x.word
carried None w = w

abbrev pub fetched : State → ℕ → ℕ → ℕ
fetched s b c = carried (newest (lane s.lines b c)) (word_of s c)

abbrev pub read : Choice → State → ℕ → ℕ → Entry → Outcome
read k s b c Entry.Invalid = new_entry k s b c (Answer.Word (fetched s b c)) (Entry.Clean (fetched s b c))
read k s b c (Entry.Clean w) = Some (Answer.Word w, s)
read k s b c (Entry.Dirty w) = Some (Answer.Word w, s)

abbrev pub write : Choice → State → ℕ → ℕ → ℕ → Entry → Outcome
write k s b c w Entry.Invalid = new_entry k s b c Answer.Done (Entry.Dirty w)
write k s b c w (Entry.Clean v) = done (with_entry s b c (Entry.Dirty w))
write k s b c w (Entry.Dirty v) = done (with_entry s b c (Entry.Dirty w))

-- acquire: a clean entry is emptied, a dirty one stays
abbrev pub acquire_free : State → ℕ → ℕ → Entry → Outcome
acquire_free s b c Entry.Invalid = done (with_owner s c (Some b))
acquire_free s b c (Entry.Clean w) = done (with_owner (with_entry s b c Entry.Invalid) c (Some b))
acquire_free s b c (Entry.Dirty w) = done (with_owner s c (Some b))

abbrev pub acquire : State → ℕ → ℕ → Option ℕ → Outcome
acquire s b c (Some o) = cond (o == b) (refuse Refusal.OwnedAlready s) (refuse Refusal.OwnedByAnother s)
acquire s b c None = acquire_free s b c (entry_in (cache_of s b) c)

-- release: not while a write of the board to the cell is dirty or in flight
abbrev pub is_dirty : Entry → Bool
is_dirty Entry.Invalid = false
is_dirty (Entry.Clean w) = false
is_dirty (Entry.Dirty w) = true

abbrev pub unsettled : State → ℕ → ℕ → Bool
unsettled s b c = is_dirty (entry_in (cache_of s b) c) || is_some (newest (lane s.lines b c))

abbrev pub is_owner : Option ℕ → ℕ → Bool
is_owner (Some o) b = o == b
is_owner None b = false

abbrev pub release : State → ℕ → ℕ → Outcome
release s b c = cond (is_owner (owner_of s c) b) (cond (unsettled s b c) (refuse Refusal.UnsettledWrite s) (done (with_owner s c None))) (refuse Refusal.NotOwner s)

-- a carry of the word starts, and the entry becomes e; or the path refuses it
abbrev pub carry_of : ℕ → ℕ → ℕ → Carry
carry_of b c w = record { board = b; cell = c; word = w }

abbrev pub sent : Result (Unit {0}) Refusal → State → ℕ → ℕ → ℕ → Entry → Outcome
sent (Ok u) s b c w e = done (with_lines (with_entry s b c e) (started s.long s.lines (carry_of b c w)))
sent (Err r) s b c w e = refuse r s

abbrev pub send : State → ℕ → ℕ → ℕ → Entry → Outcome
send s b c w e = sent (start_at s.long s.lines (carry_of b c w)) s b c w e

abbrev pub write_back : State → ℕ → ℕ → Entry → Outcome
write_back s b c Entry.Invalid = refuse Refusal.NotCached s
write_back s b c (Entry.Clean w) = refuse Refusal.NotDirty s
write_back s b c (Entry.Dirty w) = send s b c w (Entry.Clean w)

abbrev pub eject : State → ℕ → ℕ → Entry → Outcome
eject s b c Entry.Invalid = refuse Refusal.NotCached s
eject s b c (Entry.Clean w) = done (with_entry s b c Entry.Invalid)
eject s b c (Entry.Dirty w) = send s b c w Entry.Invalid

-- land: the oldest carry of the chosen lane is taken from its line and written to home; nothing waits only where no
-- line has a carry
abbrev pub landed : State → Carry → State
landed s x = with_words (with_lines s (slice_set s.lines x.board (without x.board x.cell (line s.lines x.board)))) (written s.words x.cell x.word)

abbrev pub land : State → Option Carry → Outcome
land s (Some x) = Some (Answer.Landed x, landed s x)
land s None = cond (quiet s.lines) (Some (Answer.NothingWaits, s)) None

abbrev pub step : Choice → State → Step → Outcome
step k s (Step.Read b c) = checked s b c (read k s b c (entry_in (cache_of s b) c))
step k s (Step.Write b c w) = checked s b c (write k s b c w (entry_in (cache_of s b) c))
step k s (Step.Acquire b c) = checked s b c (acquire s b c (owner_of s c))
step k s (Step.Release b c) = checked s b c (release s b c)
step k s (Step.WriteBack b c) = checked s b c (write_back s b c (entry_in (cache_of s b) c))
step k s (Step.Eject b c) = checked s b c (eject s b c (entry_in (cache_of s b) c))
step k s Step.Land = cond (nat_lt 0 s.boards) (land s (oldest (lane s.lines k.board k.cell))) (refuse Refusal.NoSuchBoard s)

-- From s the step may be answered so and leave t: some choice that is open gives it.
abbrev pub Takes : State → Step → Answer → State → Type 0
Takes s call answer t = (k : Choice) × (step k s call ≡ Some (answer, t))

-- A bench over a first-come path, told plainly: which entry each board has of each cell, who owns each cell, the memory's
-- words, and the carries that wait, in the order started over all boards. No place of a cache is in it, and no kind of home.
use Rattle.std.specs.Prelude.{ℕ, zero, suc, Bool, true, false, cond, ◌||◌, List, [], ◌∷◌, ◌++◌, length, is_some, Some, None, filter, Option, ◌==◌, nat_lt, slice_index}
use Rattle.model.specs.declared.answer.Answer.{Answer}
use Rattle.model.specs.declared.carry.Carry.{Carry}
use Rattle.model.specs.declared.entry.Entry.{Entry}
use Rattle.model.specs.declared.refusal.Refusal.{Refusal}
use Rattle.model.specs.declared.step.Step.{Step}
use Rattle.carries.specs.Lines.{of_lane, newest}
use Rattle.carries.specs.Tables.{line_of}
use Rattle.protocol.specs.Machine.{after_acquire}
use Rattle.state.specs.Steps.{carried, carry_of, is_dirty, is_owner}

pub record Plain : Type 0 where
  pub boards : ℕ
  pub entries : ℕ
  pub cells : ℕ
  pub entry : (board cell : ℕ) → Entry
  pub owner : (cell : ℕ) → Option ℕ
  pub word : (cell : ℕ) → ℕ
  pub waiting : List Carry

-- nothing cached, no owners, nothing on its way
abbrev pub fresh : (boards entries : ℕ) → List ℕ → Plain
fresh b e ws =
    record {
      boards = b;
      entries = e;
      cells = length ws;
      entry = λ p c. Entry.Invalid;
      owner = λ c. None;
      word = λ c. slice_index ws c;
      waiting = [];
    }

-- ── what changes ──

-- f, but x at i
abbrev pub put : {X : Type 0} → (ℕ → X) → ℕ → X → ℕ → X
put f i x n = cond (n == i) x (f n)

abbrev pub with_entry : Plain → ℕ → ℕ → Entry → Plain
with_entry p b c e = record { boards = p.boards; entries = p.entries; cells = p.cells; entry = put p.entry b (put (p.entry b) c e); owner = p.owner; word = p.word; waiting = p.waiting }

abbrev pub with_owner : Plain → ℕ → Option ℕ → Plain
with_owner p c o = record { boards = p.boards; entries = p.entries; cells = p.cells; entry = p.entry; owner = put p.owner c o; word = p.word; waiting = p.waiting }

abbrev pub with_word : Plain → ℕ → ℕ → Plain
with_word p c w = record { boards = p.boards; entries = p.entries; cells = p.cells; entry = p.entry; owner = p.owner; word = put p.word c w; waiting = p.waiting }

abbrev pub with_waiting : Plain → List Carry → Plain
with_waiting p xs = record { boards = p.boards; entries = p.entries; cells = p.cells; entry = p.entry; owner = p.owner; word = p.word; waiting = xs }

-- ── the steps ──

-- the answer, and the bench after it
abbrev pub Reply : Type 0
Reply = Answer × Plain

abbrev pub refuse : Refusal → Plain → Reply
refuse r p = (Answer.Refused r, p)

abbrev pub on_bench : Plain → ℕ → ℕ → Reply → Reply
on_bench p b c go = cond (nat_lt b p.boards) (cond (nat_lt c p.cells) go (refuse Refusal.NoSuchCell p)) (refuse Refusal.NoSuchBoard p)

abbrev pub is_valid : Entry → Bool
is_valid Entry.Invalid = false
is_valid (Entry.Clean w) = true
is_valid (Entry.Dirty w) = true

-- how many cells below n have a valid entry
abbrev pub valid_below : (ℕ → Entry) → ℕ → ℕ
valid_below f zero = 0
valid_below f (suc n) = cond (is_valid (f n)) (suc (valid_below f n)) (valid_below f n)

-- a new entry, if the board may have one more
abbrev pub new_entry : Plain → ℕ → ℕ → Answer → Entry → Reply
new_entry p b c a e = cond (nat_lt (valid_below (p.entry b) p.cells) p.entries) (a, with_entry p b c e) (refuse Refusal.CacheFull p)

-- the newest of the board's own carries of the cell
abbrev pub newest_of : Plain → ℕ → ℕ → Option Carry
newest_of p b c = newest (filter (of_lane b c) p.waiting)

abbrev pub fetched : Plain → ℕ → ℕ → ℕ
fetched p b c = carried (newest_of p b c) (p.word c)

abbrev pub read : Plain → ℕ → ℕ → Entry → Reply
read p b c Entry.Invalid = new_entry p b c (Answer.Word (fetched p b c)) (Entry.Clean (fetched p b c))
read p b c (Entry.Clean w) = (Answer.Word w, p)
read p b c (Entry.Dirty w) = (Answer.Word w, p)

abbrev pub write : Plain → ℕ → ℕ → ℕ → Entry → Reply
write p b c w Entry.Invalid = new_entry p b c Answer.Done (Entry.Dirty w)
write p b c w (Entry.Clean v) = (Answer.Done, with_entry p b c (Entry.Dirty w))
write p b c w (Entry.Dirty v) = (Answer.Done, with_entry p b c (Entry.Dirty w))

abbrev pub acquire : Plain → ℕ → ℕ → Option ℕ → Reply
acquire p b c (Some o) = cond (o == b) (refuse Refusal.OwnedAlready p) (refuse Refusal.OwnedByAnother p)
acquire p b c None = (Answer.Done, with_owner (with_entry p b c (after_acquire (p.entry b c))) c (Some b))

abbrev pub release : Plain → ℕ → ℕ → Reply
release p b c =
    cond (is_owner (p.owner c) b)
    (cond (is_dirty (p.entry b c) || is_some (newest_of p b c)) (refuse Refusal.UnsettledWrite p) (Answer.Done, with_owner p c None))
    (refuse Refusal.NotOwner p)

-- a carry of the word starts behind all others, and the entry becomes e; a board has eight on the way at most
abbrev pub send : Plain → ℕ → ℕ → ℕ → Entry → Reply
send p b c w e =
    cond (nat_lt (length (line_of b p.waiting)) 8)
    (Answer.Done, with_waiting (with_entry p b c e) (p.waiting ++ carry_of b c w ∷ []))
    (refuse Refusal.LineFull p)

abbrev pub write_back : Plain → ℕ → ℕ → Entry → Reply
write_back p b c Entry.Invalid = refuse Refusal.NotCached p
write_back p b c (Entry.Clean w) = refuse Refusal.NotDirty p
write_back p b c (Entry.Dirty w) = send p b c w (Entry.Clean w)

abbrev pub eject : Plain → ℕ → ℕ → Entry → Reply
eject p b c Entry.Invalid = refuse Refusal.NotCached p
eject p b c (Entry.Clean w) = (Answer.Done, with_entry p b c Entry.Invalid)
eject p b c (Entry.Dirty w) = send p b c w Entry.Invalid

-- the carry started earliest of all lands
abbrev pub land : Plain → List Carry → Reply
land p [] = (Answer.NothingWaits, p)
land p (x ∷ xs) = (Answer.Landed x, with_word (with_waiting p xs) x.cell x.word)

abbrev pub step : Plain → Step → Reply
step p (Step.Read b c) = on_bench p b c (read p b c (p.entry b c))
step p (Step.Write b c w) = on_bench p b c (write p b c w (p.entry b c))
step p (Step.Acquire b c) = on_bench p b c (acquire p b c (p.owner c))
step p (Step.Release b c) = on_bench p b c (release p b c)
step p (Step.WriteBack b c) = on_bench p b c (write_back p b c (p.entry b c))
step p (Step.Eject b c) = on_bench p b c (eject p b c (p.entry b c))
step p Step.Land = cond (nat_lt 0 p.boards) (land p p.waiting) (refuse Refusal.NoSuchBoard p)

-- what a list of steps answers
abbrev pub answers : Plain → List Step → List Answer
answers p [] = []
answers p (x ∷ xs) = (step p x).0 ∷ answers (step p x).1 xs

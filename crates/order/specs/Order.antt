-- The memory model: how the events on a cell are ordered, and which writes a board may read.
use Rattle.std.specs.Prelude.{◌≡◌, ℕ, zero, suc, ◌<◌, ◌⊎◌, List, [], ◌∷◌, ◌++◌, length, Some, None, Option}
use Rattle.model.specs.declared.event.Action.{Action}
use Rattle.model.specs.declared.event.Event.{Event}

-- ── histories ──

-- A history is the list of accepted events, oldest first. The first event has the number 1.
abbrev pub event_at : List Event → ℕ → Option Event
event_at [] n = None
event_at (e ∷ h) zero = None
event_at (e ∷ h) (suc zero) = Some e
event_at (e ∷ h) (suc (suc n)) = event_at h (suc n)

abbrev pub At : List Event → ℕ → Event → Type 0
At h n e = event_at h n ≡ Some e

-- the number that one more event gets, and the history with that event
abbrev pub next : List Event → ℕ
next h = suc (length h)

abbrev pub more : List Event → Event → List Event
more h e = h ++ e ∷ []

-- What an event can be, on the cell c: by the board b, a write of the word w, an acquire, a release.
abbrev pub By : (c b : ℕ) → Event → Type 0
By c b e = (e.cell ≡ c) × (e.board ≡ b)

abbrev pub WriteOf : (c w : ℕ) → Event → Type 0
WriteOf c w e = (e.cell ≡ c) × (e.action ≡ Action.Write w)

abbrev pub AcquireOf : (c : ℕ) → Event → Type 0
AcquireOf c e = (e.cell ≡ c) × (e.action ≡ Action.Acquire)

abbrev pub ReleaseOf : (c : ℕ) → Event → Type 0
ReleaseOf c e = (e.cell ≡ c) × (e.action ≡ Action.Release)

-- no event of that kind has a number above m and below n
abbrev pub NoneBetween : List Event → (Event → Type 0) → (m n : ℕ) → Type 0
NoneBetween h Kind m n = (k : ℕ) (e : Event) → m < k → k < n → At h k e → Kind e → ⊥

-- m is the number of the last event of that kind below the number n; at `next h`, of the last one there is
pub record Latest (h : List Event) (Kind : Event → Type 0) (n m : ℕ) : Type 0 where
  pub event : Event
  pub stands : At h m event
  pub kind : Kind event
  pub below : m < n
  pub last : NoneBetween h Kind m n

-- ── the order ──

-- What is ordered on a cell: its initial write, its initial release, both by no board, and the events on it.
pub data Point : Type 0 where
  initial_write : Point
  initial_release : Point
  event : ℕ → Point

-- the initial write has the number 0
abbrev pub numbered : ℕ → Point
numbered zero = initial_write
numbered (suc n) = event (suc n)

-- the last release of the cell c below the number n, the initial one if no event is
pub data LatestRelease (h : List Event) (c n : ℕ) : Point → Type 0 where
  some_release : {m : ℕ} → Latest h (ReleaseOf c) n m → LatestRelease h c n (event m)
  no_release : NoneBetween h (ReleaseOf c) 0 n → LatestRelease h c n initial_release

-- On the cell c, the second point comes directly after the first: the initial release after the initial write; an event after
-- the same board's previous event there; an acquire also after the latest release.
pub data Directly (h : List Event) (c : ℕ) : Point → Point → Type 0 where
  initial : Directly h c initial_write initial_release
  same_board : {m n : ℕ} (b : ℕ) (e : Event) → At h n e → By c b e → Latest h (By c b) n m → Directly h c (event m) (event n)
  acquire : {x : Point} {n : ℕ} (e : Event) → At h n e → AcquireOf c e → LatestRelease h c n x → Directly h c x (event n)

-- before: a chain of such links
pub data Before (h : List Event) (c : ℕ) (x : Point) : Point → Type 0 where
  link : {y : Point} → Directly h c x y → Before h c x y
  chain : {y z : Point} → Before h c x y → Directly h c y z → Before h c x z

-- ── what a board may read ──

abbrev pub IsWrite : List Event → (c : ℕ) → Point → Type 0
IsWrite h c initial_write = Unit {0}
IsWrite h c initial_release = ⊥
IsWrite h c (event n) = (e : Event) × (w : ℕ) × At h n e × WriteOf c w e

-- The write brings the word w; the cell started with the word start.
abbrev pub Brings : List Event → (start c : ℕ) → Point → (w : ℕ) → Type 0
Brings h start c initial_write w = start ≡ w
Brings h start c initial_release w = ⊥
Brings h start c (event n) w = (e : Event) × At h n e × WriteOf c w e

-- The board b knows x: x is before its latest event on the cell c, or is that event.
pub record Known (h : List Event) (c b : ℕ) (x : Point) : Type 0 where
  pub latest : ℕ
  pub is_latest : Latest h (By c b) (next h) latest
  pub up_to : (x ≡ event latest) ⊎ Before h c x (event latest)

-- The board b knows a write that x is before. A board with no event on the cell knows none.
pub record Overwritten (h : List Event) (c b : ℕ) (x : Point) : Type 0 where
  pub by : Point
  pub write : IsWrite h c by
  pub later : Before h c x by
  pub known : Known h c b by

pub record Readable (h : List Event) (c b : ℕ) (x : Point) : Type 0 where
  pub write : IsWrite h c x
  pub current : Overwritten h c b x → ⊥

-- A read of the cell by the board may answer the word w: some readable write brings it.
pub record Legal (h : List Event) (start c b w : ℕ) : Type 0 where
  pub write : Point
  pub readable : Readable h c b write
  pub brings : Brings h start c write w

-- ── ownership ──

-- Below the number n, the board b made the last acquire of the cell c, and no release follows it.
pub record Owns (h : List Event) (c b n : ℕ) : Type 0 where
  pub acquired : ℕ
  pub latest : Latest h (AcquireOf c) n acquired
  pub board : latest.event.board ≡ b
  pub kept : NoneBetween h (ReleaseOf c) acquired n

-- Each acquire finds its cell without an owner, and each release is by the owner.
pub record Disciplined (h : List Event) : Type 0 where
  pub acquires : (n : ℕ) (e : Event) → At h n e → e.action ≡ Action.Acquire → (b : ℕ) → Owns h e.cell b n → ⊥
  pub releases : (n : ℕ) (e : Event) → At h n e → e.action ≡ Action.Release → Owns h e.cell e.board n

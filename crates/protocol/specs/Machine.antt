-- The Location Consistency cache protocol at one location: what a state holds, and the moves with their guards and
-- effects. The machine has no places, no lengths and no refusals: a move whose guard fails does not happen.
use Rattle.std.specs.Prelude.{◌≡◌, ℕ, List, [], ◌∷◌, ◌++◌, Some, None, Option, ◌≢◌}
use Rattle.model.specs.declared.entry.Entry.{Entry}

-- Per board its cache entry, invalid, clean or dirty, and the words of its write backs in flight, oldest first; the
-- owner; the word in memory.
pub record Cell : Type 0 where
  pub entry : ℕ → Entry
  pub flight : ℕ → List ℕ
  pub owner : Option ℕ
  pub memory : ℕ

pub data Move : Type 0 where
  reads : (board word : ℕ) → Move
  writes : (board word : ℕ) → Move
  acquires : (board : ℕ) → Move
  releases : (board : ℕ) → Move
  -- a write back is initiated, and later completed
  writes_back : (board : ℕ) → Move
  completes : (board word : ℕ) → Move
  ejects : (board : ℕ) → Move
  rests : Move

-- what a read finds: the entry's word if it is valid, else the newest word in flight, else the memory's
abbrev pub newest : List ℕ → ℕ → ℕ
newest [] v = v
newest (w ∷ ws) v = newest ws w

abbrev pub read_word : Entry → List ℕ → ℕ → ℕ
read_word Entry.Invalid ws m = newest ws m
read_word (Entry.Clean v) ws m = v
read_word (Entry.Dirty v) ws m = v

-- an entry after a read of w: a valid one stays
abbrev pub after_read : Entry → ℕ → Entry
after_read Entry.Invalid w = Entry.Clean w
after_read (Entry.Clean v) w = Entry.Clean v
after_read (Entry.Dirty v) w = Entry.Dirty v

-- an acquire invalidates a clean entry; a dirty one stays
abbrev pub after_acquire : Entry → Entry
after_acquire Entry.Invalid = Entry.Invalid
after_acquire (Entry.Clean v) = Entry.Invalid
after_acquire (Entry.Dirty v) = Entry.Dirty v

-- the word that a dirty entry sends
abbrev pub sent : Entry → List ℕ
sent Entry.Invalid = []
sent (Entry.Clean v) = []
sent (Entry.Dirty v) = v ∷ []

-- the board's entry and flight, the owner and the memory become as given; every other board's entry and flight stay
pub record Becomes (s t : Cell) (b : ℕ) (e : Entry) (ws : List ℕ) (o : Option ℕ) (m : ℕ) : Type 0 where
  pub own_entry : t.entry b ≡ e
  pub own_flight : t.flight b ≡ ws
  pub other_entries : (p : ℕ) → (p ≢ b) → t.entry p ≡ s.entry p
  pub other_flights : (p : ℕ) → (p ≢ b) → t.flight p ≡ s.flight p
  pub owner : t.owner ≡ o
  pub memory : t.memory ≡ m

pub record Same (s t : Cell) : Type 0 where
  pub entry : (p : ℕ) → t.entry p ≡ s.entry p
  pub flight : (p : ℕ) → t.flight p ≡ s.flight p
  pub owner : t.owner ≡ s.owner
  pub memory : t.memory ≡ s.memory

abbrev pub Guard : Move → Cell → Type 0
Guard (reads b w) s = w ≡ read_word (s.entry b) (s.flight b) s.memory
Guard (writes b w) s = Unit {0}
Guard (acquires b) s = s.owner ≡ None
Guard (releases b) s = (s.owner ≡ Some b) × (sent (s.entry b) ≡ []) × (s.flight b ≡ [])
Guard (writes_back b) s = (v : ℕ) × (s.entry b ≡ Entry.Dirty v)
Guard (completes b w) s = (rest : List ℕ) × (s.flight b ≡ w ∷ rest)
Guard (ejects b) s = s.entry b ≡ Entry.Invalid → ⊥
Guard rests s = Unit {0}

-- the write back that is completed is the board's oldest
abbrev pub later : List ℕ → List ℕ
later [] = []
later (w ∷ ws) = ws

-- a dirty entry that is written back is clean
abbrev pub cleaned : Entry → Entry
cleaned Entry.Invalid = Entry.Invalid
cleaned (Entry.Clean v) = Entry.Clean v
cleaned (Entry.Dirty v) = Entry.Clean v

abbrev pub Effect : Move → Cell → Cell → Type 0
Effect (reads b w) s t = Becomes s t b (after_read (s.entry b) w) (s.flight b) s.owner s.memory
Effect (writes b w) s t = Becomes s t b (Entry.Dirty w) (s.flight b) s.owner s.memory
Effect (acquires b) s t = Becomes s t b (after_acquire (s.entry b)) (s.flight b) (Some b) s.memory
Effect (releases b) s t = Becomes s t b (s.entry b) (s.flight b) None s.memory
Effect (writes_back b) s t = Becomes s t b (cleaned (s.entry b)) (s.flight b ++ sent (s.entry b)) s.owner s.memory
Effect (completes b w) s t = Becomes s t b (s.entry b) (later (s.flight b)) s.owner w
Effect (ejects b) s t = Becomes s t b Entry.Invalid (s.flight b ++ sent (s.entry b)) s.owner s.memory
Effect rests s t = Same s t

-- the machine makes that move from s to t
pub record Moves (m : Move) (s t : Cell) : Type 0 where
  pub guard : Guard m s
  pub effect : Effect m s t

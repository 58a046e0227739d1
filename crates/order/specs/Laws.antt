-- The laws of the order of events.
use Rattle.std.specs.Prelude.{◌≡◌, ℕ, suc, ◌<◌, ◌⊎◌, ◌↔◌, List, ◌++◌, ◌≢◌}
use Rattle.model.specs.declared.event.Event.{Event}
use Rattle.order.specs.Order.{At, next, more, By, WriteOf, AcquireOf, ReleaseOf, Point, initial_write, initial_release, event, Before, IsWrite, Overwritten, Readable, Disciplined}

-- the initial points first, then the events by their numbers
abbrev pub place : Point → ℕ
place initial_write = 0
place initial_release = 1
place (event n) = suc n

-- the points of a cell that are there already
abbrev pub Within : List Event → Point → Type 0
Within h initial_write = Unit {0}
Within h initial_release = Unit {0}
Within h (event n) = n < next h

-- How an event of the board p numbered n came to be before one of another board, numbered m: p released the cell after n, and
-- another board acquired it later, at m or before m.
pub record Handed (h : List Event) (c p n m : ℕ) : Type 0 where
  pub release : ℕ
  pub released : Event
  pub release_stands : At h release released
  pub is_release : ReleaseOf c released
  pub by_first : released.board ≡ p
  pub after : (n < release) × Before h c (event n) (event release)
  pub acquire : ℕ
  pub acquired : Event
  pub acquire_stands : At h acquire acquired
  pub is_acquire : AcquireOf c acquired
  pub by_other : acquired.board ≡ p → ⊥
  pub later : (release < acquire) × Before h c (event release) (event acquire)
  pub up_to : (acquire ≡ m) ⊎ Before h c (event acquire) (event m)

pub record Laws : Type 0 where
  pub transitive : (h : List Event) (c : ℕ) (x y z : Point) → Before h c x y → Before h c y z → Before h c x z
  pub forward : (h : List Event) (c : ℕ) (x y : Point) → Before h c x y → place x < place y
  -- later events change nothing among the older points
  pub settled : (h later : List Event) (c : ℕ) (x y : Point) → Within h y → Before (h ++ later) c x y ↔ Before h c x y
  -- all releases of a cell are in one chain, the initial one first
  pub first_release : (h : List Event) (c n : ℕ) (e : Event) → Disciplined h → At h n e → ReleaseOf c e → Before h c initial_release (event n)
  pub one_chain : (h : List Event) (c m n : ℕ) (e f : Event) → Disciplined h → At h m e → ReleaseOf c e → At h n f → ReleaseOf c f → m < n → Before h c (event m) (event n)
  -- a write of one board is before an event of another only through a release by the first and a later acquire
  pub handed : (h : List Event) (c w n m : ℕ) (e f : Event) → At h n e → WriteOf c w e → At h m f → (f.board ≢ e.board) → Before h c (event n) (event m) → Handed h c e.board n m
  -- right after its own write a board may read that write; and at no time after it anything that is before it
  pub own_write : (h : List Event) (c b w : ℕ) (e : Event) → By c b e → WriteOf c w e → Readable (more h e) c b (event (next h))
  pub gone : (h : List Event) (c b w n : ℕ) (e : Event) (x : Point) → At h n e → By c b e → WriteOf c w e → Before h c x (event n) → Readable h c b x → ⊥
  -- what a board may no longer read it will never read again
  pub for_good : (h later : List Event) (c b : ℕ) (x : Point) → Overwritten h c b x → Overwritten (h ++ later) c b x
  -- a board with no event on the cell may read every write of it
  pub silent : (h : List Event) (c b : ℕ) (x : Point) → ((n : ℕ) (e : Event) → At h n e → By c b e → ⊥) → IsWrite h c x → Readable h c b x

-- shut, so that a search in a function that promises the laws does not open them
unfoldable pub LawsOfOrder : Type 0
LawsOfOrder = Laws

-- The tests of the memory model: what is readable, computed by one walk over the history.
use Rattle.std.specs.Prelude.{◌≡◌, ℕ, zero, suc, ◌<◌, max, Bool, true, false, cond, ◌&&◌, ◌↔◌, List, [], ◌∷◌, length, replicate, Some, None, Decides, Option, ◌==◌, nat_le, nat_lt, slice_index, slice_index_or, slice_set}
use Rattle.model.specs.declared.event.Action.{Action}
use Rattle.model.specs.declared.event.Event.{Event}
use Rattle.order.specs.declared.view.View.{View}
use Rattle.order.specs.declared.view.Views.{Views}
use Rattle.order.specs.Order.{event_at, next, numbered, Readable, Brings, Legal, Owns}

-- Writers are the boards 0 to 7, and 8 for no board, which made the initial write.

-- ── views ──

-- the greater of the bounds of two views, writer by writer
abbrev pub later : List ℕ → List ℕ → List ℕ
later [] ns = ns
later (m ∷ ms) [] = m ∷ ms
later (m ∷ ms) (n ∷ ns) = max m n ∷ later ms ns

-- nothing is known yet; at the initial release, the initial write
abbrev pub blank : View
blank = record { known = replicate 9 0; over = replicate 9 0 }

abbrev pub initially : Views
initially = record { boards = replicate 8 blank; released = record { known = slice_set (replicate 9 0) 8 1; over = replicate 9 0 } }

abbrev pub view_of : Views → ℕ → View
view_of t p = slice_index_or t.boards p blank

-- a write by p, numbered n: what was known before it is overwritten
abbrev pub writing : (p n : ℕ) → View → View
writing p n v = record { known = slice_set v.known p (suc n); over = v.known }

-- an acquire: what is known at the latest release is known here too
abbrev pub joining : View → View → View
joining v u = record { known = later v.known u.known; over = later v.over u.over }

abbrev pub putting : (p : ℕ) → View → Views → Views
putting p v t = record { boards = slice_set t.boards p v; released = t.released }

-- the views after an event of the cell, by p and numbered n
abbrev pub viewing : (n p : ℕ) → Action → Views → Views
viewing n p (Action.Write w) t = putting p (writing p n (view_of t p)) t
viewing n p Action.Acquire t = putting p (joining (view_of t p) t.released) t
viewing n p Action.Release t = record { boards = t.boards; released = view_of t p }

-- the views of the cell c after any event
abbrev pub passing : (c n : ℕ) → Event → Views → Views
passing c n e t = cond (e.cell == c) (viewing n e.board e.action t) t

-- the views of the cell c after the events h, the first of which is numbered n
abbrev pub views_from : (c n : ℕ) → List Event → Views → Views
views_from c n [] t = t
views_from c n (e ∷ h) t = views_from c (suc n) h (passing c n e t)

abbrev pub views : (c : ℕ) → List Event → Views
views c h = views_from c 1 h initially

-- ── writes ──

-- the writer of the write of the cell c that has the number n, if there is such a write
abbrev pub writer_by : Action → ℕ → Option ℕ
writer_by (Action.Write w) p = Some p
writer_by Action.Acquire p = None
writer_by Action.Release p = None

abbrev pub writer_in : (c : ℕ) → Option Event → Option ℕ
writer_in c None = None
writer_in c (Some e) = cond (e.cell == c) (writer_by e.action e.board) None

abbrev pub writer_of : List Event → (c n : ℕ) → Option ℕ
writer_of h c zero = Some 8
writer_of h c (suc n) = writer_in c (event_at h (suc n))

-- ── readable ──

-- for each writer, the number below which its writes of the cell are overwritten for the board
abbrev pub bounds : List Event → (c b : ℕ) → List ℕ
bounds h c b = (view_of (views c h) b).over

-- whether a write of that number and writer is not overwritten
abbrev pub current : (over : List ℕ) (n : ℕ) → Option ℕ → Bool
current over n None = false
current over n (Some p) = nat_le (slice_index over p) n

abbrev pub readable : List Event → (c b n : ℕ) → Bool
readable h c b n = current (bounds h c b) n (writer_of h c n)

-- every event is by one of eight boards
abbrev pub on_boards : List Event → Bool
on_boards [] = true
on_boards (e ∷ h) = nat_lt e.board 8 && on_boards h

-- the test holds exactly where the relation does
unfoldable pub ReadableDecided : Type 0
ReadableDecided = (h : List Event) (c b n : ℕ) → on_boards h ≡ true → b < 8 → Decides (readable h c b n) (Readable h c b (numbered n))

-- ── legal ──

-- whether the write numbered n brings the word w
abbrev pub brings_by : Action → ℕ → Bool
brings_by (Action.Write v) w = v == w
brings_by Action.Acquire w = false
brings_by Action.Release w = false

abbrev pub brings_in : Option Event → ℕ → Bool
brings_in None w = false
brings_in (Some e) w = brings_by e.action w

abbrev pub brings : List Event → (start n w : ℕ) → Bool
brings h start zero w = start == w
brings h start (suc n) w = brings_in (event_at h (suc n)) w

-- the highest number up to n that passes
abbrev pub highest : (ℕ → Bool) → ℕ → Option ℕ
highest pass zero = cond (pass 0) (Some 0) None
highest pass (suc n) = cond (pass (suc n)) (Some (suc n)) (highest pass n)

-- the highest-numbered readable write that brings the word
unfoldable pub legal_under : (over : List ℕ) → List Event → (start c w : ℕ) → Option ℕ
legal_under over h start c w = highest (λ n. current over n (writer_of h c n) && brings h start n w) (length h)

abbrev pub legal : List Event → (start c b w : ℕ) → Option ℕ
legal h start c b w = legal_under (bounds h c b) h start c w

pub record LegalBy (h : List Event) (start c b w n : ℕ) : Type 0 where
  pub readable : Readable h c b (numbered n)
  pub brings : Brings h start c (numbered n) w
  pub highest : (m : ℕ) → n < m → Readable h c b (numbered m) → Brings h start c (numbered m) w → ⊥

-- the test answers a number exactly where that write is legal and the highest, and none exactly where the word is not legal
unfoldable pub LegalDecided : Type 0
LegalDecided =
    ((h : List Event) (start c b w n : ℕ) → on_boards h ≡ true → b < 8 → (legal h start c b w ≡ Some n) ↔ LegalBy h start c b w n)
    × ((h : List Event) (start c b w : ℕ) → on_boards h ≡ true → b < 8 → (legal h start c b w ≡ None) ↔ (Legal h start c b w → ⊥))

-- ── the owner ──

abbrev pub owner_by : Action → ℕ → Option ℕ → Option ℕ
owner_by (Action.Write w) b o = o
owner_by Action.Acquire b o = Some b
owner_by Action.Release b o = None

abbrev pub owner_after : (c : ℕ) → Event → Option ℕ → Option ℕ
owner_after c e o = cond (e.cell == c) (owner_by e.action e.board o) o

abbrev pub owner_from : (c : ℕ) → List Event → Option ℕ → Option ℕ
owner_from c [] o = o
owner_from c (e ∷ h) o = owner_from c h (owner_after c e o)

abbrev pub owner_of : List Event → (c : ℕ) → Option ℕ
owner_of h c = owner_from c h None

-- whether an event changes who owns the cell c
abbrev pub changes_by : Action → Bool
changes_by (Action.Write w) = false
changes_by Action.Acquire = true
changes_by Action.Release = true

abbrev pub changes_owner : (c : ℕ) → Event → Bool
changes_owner c e = e.cell == c && changes_by e.action

unfoldable pub OwnerDecided : Type 0
OwnerDecided = (h : List Event) (c b : ℕ) → (owner_of h c ≡ Some b) ↔ Owns h c b (next h)

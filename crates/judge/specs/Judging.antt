-- What the judge answers, and what its history is afterwards.
use Rattle.std.specs.Prelude.{ℕ, min, Bool, cond, ◌&&◌, List, length, take, is_some, is_ok, Some, None, Ok, Err, Option, Result, ◌==◌, nat_le, nat_lt, slice_index, slice_set}
use Rattle.model.specs.declared.event.Action.{Action}
use Rattle.model.specs.declared.event.Event.{Event}
use Rattle.model.specs.declared.refusal.Refusal.{Refusal}
use Rattle.model.specs.declared.refusal.Refusal.TheVariants.{NoSuchBoard, NoSuchCell, SizeOutOfRange, NotAWrite, OwnedByAnother, OwnedAlready, NotOwner, EventsFull}
use Rattle.order.specs.Order.{next, more}
use Rattle.order.specs.Test.{owner_of, writer_of, readable, legal}
use Rattle.judge.specs.declared.judge.Judge.{Judge}

-- the events noted so far, and how many can be noted in all
abbrev pub history_of : Judge → List Event
history_of j = take j.noted j.list.now

abbrev pub room_of : Judge → ℕ
room_of j = min 2048 (length j.list.now)

-- a check, and what comes after it is passed
abbrev pub after : {T : Type 0} → Result (Unit {0}) Refusal → Result T Refusal → Result T Refusal
after (Ok u) r = r
after (Err e) r = Err e

-- boards from 1 to 8 and cells from 1 to 64; a board and a cell among them
abbrev pub ranged : (boards cells : ℕ) → Bool
ranged boards cells = (nat_lt 0 boards && nat_le boards 8) && (nat_lt 0 cells && nat_le cells 64)

abbrev pub standing : (boards cells b c : ℕ) → Result (Unit {0}) Refusal
standing boards cells b c = cond (ranged boards cells) (cond (nat_lt b boards) (cond (nat_lt c cells) (Ok tt) (Err NoSuchCell)) (Err NoSuchBoard)) (Err SizeOutOfRange)

-- whether the cell's owner lets the board do this
abbrev pub acquiring : Option ℕ → ℕ → Result (Unit {0}) Refusal
acquiring None b = Ok tt
acquiring (Some p) b = cond (p == b) (Err OwnedAlready) (Err OwnedByAnother)

abbrev pub releasing : Option ℕ → ℕ → Result (Unit {0}) Refusal
releasing None b = Err NotOwner
releasing (Some p) b = cond (p == b) (Ok tt) (Err NotOwner)

abbrev pub allowed : Option ℕ → ℕ → Action → Result (Unit {0}) Refusal
allowed o b (Action.Write w) = Ok tt
allowed o b Action.Acquire = acquiring o b
allowed o b Action.Release = releasing o b

-- whether the event may be noted
abbrev pub admitted : (h : List Event) (room boards cells : ℕ) → Event → Result (Unit {0}) Refusal
admitted h room boards cells e =
    after (standing boards cells e.board e.cell)
    (after (allowed (owner_of h e.cell) e.board e.action) (cond (nat_lt (length h) room) (Ok tt) (Err EventsFull)))

-- an event that is noted is answered by its number
abbrev pub note_answer : (h : List Event) (room boards : ℕ) (words : List ℕ) → Event → Result ℕ Refusal
note_answer h room boards words e = after (admitted h room boards (length words) e) (Ok (next h))

-- a refused event changes nothing; an accepted one is added to the history, in the first free place
abbrev pub extended : {T : Type 0} → Result T Refusal → List Event → Event → List Event
extended r h e = cond (is_ok r) (more h e) h

abbrev pub placed : {T : Type 0} → Result T Refusal → List Event → ℕ → Event → List Event
placed r list i e = cond (is_ok r) (slice_set list i e) list

abbrev pub readable_answer : (h : List Event) (boards : ℕ) (words : List ℕ) (b c n : ℕ) → Result Bool Refusal
readable_answer h boards words b c n = after (standing boards (length words) b c) (cond (is_some (writer_of h c n)) (Ok (readable h c b n)) (Err NotAWrite))

abbrev pub legal_answer : (h : List Event) (boards : ℕ) (words : List ℕ) (b c w : ℕ) → Result (Option ℕ) Refusal
legal_answer h boards words b c w = after (standing boards (length words) b c) (Ok (legal h (slice_index words c) c b w))

-- The number of each refusal: 1 to 7 from the input alone, 10 to 19 from the state.
use Rattle.std.specs.Prelude.{ℕ}
use Rattle.model.specs.declared.refusal.Refusal.{Refusal}
use Rattle.model.specs.declared.refusal.Refusal.TheVariants.{NoSuchBoard, NoSuchCell, SizeOutOfRange, MalformedLine, AnswersTooShort, TextTooLong, NotAWrite, PathNotEmpty, OwnedByAnother, OwnedAlready, NotOwner, CacheFull, NotCached, NotDirty, UnsettledWrite, LineFull, EventsFull}

abbrev pub number_of : Refusal → ℕ
number_of NoSuchBoard = 1
number_of NoSuchCell = 2
number_of SizeOutOfRange = 3
number_of MalformedLine = 4
number_of AnswersTooShort = 5
number_of TextTooLong = 6
number_of NotAWrite = 7
number_of PathNotEmpty = 10
number_of OwnedByAnother = 11
number_of OwnedAlready = 12
number_of NotOwner = 13
number_of CacheFull = 14
number_of NotCached = 15
number_of NotDirty = 16
number_of UnsettledWrite = 17
number_of LineFull = 18
number_of EventsFull = 19

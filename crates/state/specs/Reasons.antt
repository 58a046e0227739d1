-- Why a step is refused: it meets a limit of the bench, of which the protocol knows nothing, or the protocol does not
-- allow the move that was meant. Where the protocol has a board wait, or write back or eject first, the bench refuses.
use Rattle.std.specs.Prelude.{◌≡◌, ℕ, ◌≤◌, ◌⊎◌, length}
use Rattle.model.specs.declared.entry.Entry.{Entry}
use Rattle.model.specs.declared.refusal.Refusal.{Refusal}
use Rattle.model.specs.declared.step.Step.{Step}
use Rattle.carries.specs.Lines.{line}
use Rattle.cache.specs.Places.{taken_in}
use Rattle.protocol.specs.Machine.{Move, Guard, read_word, reads, writes, acquires, releases, writes_back, ejects, rests}
use Rattle.state.specs.Cells.{project}
use Rattle.state.specs.States.{State, cells_of, cache_of}

-- the board and the cell of a step; a landing has neither, and needs only that there is a board
abbrev pub board_of : Step → ℕ
board_of (Step.Read b c) = b
board_of (Step.Write b c w) = b
board_of (Step.Acquire b c) = b
board_of (Step.Release b c) = b
board_of (Step.WriteBack b c) = b
board_of (Step.Eject b c) = b
board_of Step.Land = 0

abbrev pub cell_of : Step → ℕ
cell_of (Step.Read b c) = c
cell_of (Step.Write b c w) = c
cell_of (Step.Acquire b c) = c
cell_of (Step.Release b c) = c
cell_of (Step.WriteBack b c) = c
cell_of (Step.Eject b c) = c
cell_of Step.Land = 0

-- the limits: the boards and the cells of the bench, the entries of a cache for a cell that is not cached, and the
-- length of a line
pub data Limit (s : State) (call : Step) : Refusal → Type 0 where
  no_board : s.boards ≤ board_of call → Limit s call Refusal.NoSuchBoard
  no_cell : cells_of s ≤ cell_of call → Limit s call Refusal.NoSuchCell
  no_entry : (project (cell_of call) s).entry (board_of call) ≡ Entry.Invalid → s.entries ≤ taken_in (cache_of s (board_of call)) → Limit s call Refusal.CacheFull
  no_room : s.long ≤ length (line s.lines (board_of call)) → Limit s call Refusal.LineFull

-- the move that a step is meant to be, at its own cell
abbrev pub meant : State → Step → Move
meant s (Step.Read b c) = reads b (read_word ((project c s).entry b) ((project c s).flight b) (project c s).memory)
meant s (Step.Write b c w) = writes b w
meant s (Step.Acquire b c) = acquires b
meant s (Step.Release b c) = releases b
meant s (Step.WriteBack b c) = writes_back b
meant s (Step.Eject b c) = ejects b
meant s Step.Land = rests

abbrev pub Barred : State → Step → Refusal → Type 0
Barred s call r = Limit s call r ⊎ (Guard (meant s call) (project (cell_of call) s) → ⊥)

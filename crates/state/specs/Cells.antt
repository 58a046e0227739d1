-- What a bench holds of one cell, and what a step is there, in the words of the cache protocol.
use Rattle.std.specs.Prelude.{ℕ, ◌<◌, cond, List, map, length, ◌==◌}
use Rattle.model.specs.declared.answer.Answer.{Answer}
use Rattle.model.specs.declared.carry.Carry.{Carry}
use Rattle.model.specs.declared.step.Step.{Step}
use Rattle.carries.specs.Lines.{lane}
use Rattle.cache.specs.Places.{entry_in}
use Rattle.protocol.specs.Machine.{Cell, Move, Moves, reads, writes, acquires, releases, writes_back, completes, ejects, rests}
use Rattle.state.specs.States.{State, cache_of, owner_of, word_of}

abbrev pub words_of : List Carry → List ℕ
words_of xs = map (λ x. x.word) xs

-- each board's entry of the cell and the words that it has in flight there, oldest first; the owner; the home's word
abbrev pub project : ℕ → State → Cell
project c s =
    record {
      entry = λ b. entry_in (cache_of s b) c;
      flight = λ b. words_of (lane s.lines b c);
      owner = owner_of s c;
      memory = word_of s c;
    }

-- what a step on cell d is at cell c
abbrev pub on_cell : (c d : ℕ) → Move → Move
on_cell c d m = cond (d == c) m rests

abbrev pub if_done : Answer → Move → Move
if_done Answer.Done m = m
if_done (Answer.Word w) m = rests
if_done (Answer.Landed x) m = rests
if_done Answer.NothingWaits m = rests
if_done (Answer.Refused r) m = rests

abbrev pub if_word : Answer → (ℕ → Move) → Move
if_word (Answer.Word w) m = m w
if_word Answer.Done m = rests
if_word (Answer.Landed x) m = rests
if_word Answer.NothingWaits m = rests
if_word (Answer.Refused r) m = rests

abbrev pub if_landed : Answer → (Carry → Move) → Move
if_landed (Answer.Landed x) m = m x
if_landed (Answer.Word w) m = rests
if_landed Answer.Done m = rests
if_landed Answer.NothingWaits m = rests
if_landed (Answer.Refused r) m = rests

-- What a step, answered so, is at cell c: the protocol's move of that name there, or none. A refusal is none, and so
-- is a step on another cell.
abbrev pub move_at : ℕ → Step → Answer → Move
move_at c (Step.Read b d) a = on_cell c d (if_word a (λ w. reads b w))
move_at c (Step.Write b d w) a = on_cell c d (if_done a (writes b w))
move_at c (Step.Acquire b d) a = on_cell c d (if_done a (acquires b))
move_at c (Step.Release b d) a = on_cell c d (if_done a (releases b))
move_at c (Step.WriteBack b d) a = on_cell c d (if_done a (writes_back b))
move_at c (Step.Eject b d) a = on_cell c d (if_done a (ejects b))
move_at c Step.Land a = if_landed a (λ x. on_cell c x.cell (completes x.board x.word))

-- At every cell of the home the step is the protocol's move: the move's guard holds before it, and its effect is there
-- after it.
abbrev pub Follows : State → Step → Answer → State → Type 0
Follows s call a t = (c : ℕ) → c < length s.words → Moves (move_at c call a) (project c s) (project c t)

-- What the judge says of the reads of a run: it notes each accepted event, and is asked of each word that was read.
use Rattle.std.specs.Prelude.{ℕ, ◌+◌, Bool, true, false, cond, List, [], ◌∷◌, Some, None, Ok, Err, Option, Result}
use Rattle.model.specs.declared.answer.Answer.{Answer}
use Rattle.model.specs.declared.event.Event.{Event}
use Rattle.model.specs.declared.refusal.Refusal.{Refusal}
use Rattle.model.specs.declared.step.Step.{Step}
use Rattle.judge.specs.Judging.{note_answer, extended, legal_answer}
use Rattle.rules.specs.Logs.{event_in}

-- the events that the judge has noted, after those of one more step
abbrev pub noted : (h : List Event) (boards : ℕ) (words : List ℕ) → List Event → List Event
noted h boards words [] = h
noted h boards words (e ∷ es) = noted (extended (note_answer h 2048 boards words e) h e) boards words es

abbrev pub not_legal : Result (Option ℕ) Refusal → Bool
not_legal (Ok (Some n)) = false
not_legal (Ok None) = true
not_legal (Err r) = true

-- a read that answered a word which the judge does not find legal
abbrev pub wrong_word : (h : List Event) (boards : ℕ) (words : List ℕ) (b c : ℕ) → Answer → Bool
wrong_word h boards words b c (Answer.Word w) = not_legal (legal_answer h boards words b c w)
wrong_word h boards words b c (Answer.Landed x) = false
wrong_word h boards words b c Answer.NothingWaits = false
wrong_word h boards words b c Answer.Done = false
wrong_word h boards words b c (Answer.Refused r) = false

abbrev pub read_wrongly : (h : List Event) (boards : ℕ) (words : List ℕ) → Step → Answer → Bool
read_wrongly h boards words (Step.Read b c) a = wrong_word h boards words b c a
read_wrongly h boards words (Step.Write b c w) a = false
read_wrongly h boards words (Step.Acquire b c) a = false
read_wrongly h boards words (Step.Release b c) a = false
read_wrongly h boards words (Step.WriteBack b c) a = false
read_wrongly h boards words (Step.Eject b c) a = false
read_wrongly h boards words Step.Land a = false

-- the first step that read wrongly, where the first of the list has the number n and the judge has noted h
abbrev pub first_wrong : (boards : ℕ) (words : List ℕ) (n : ℕ) (h : List Event) → List Step → List Answer → Option ℕ
first_wrong boards words n h [] answers = None
first_wrong boards words n h (x ∷ xs) [] = None
first_wrong boards words n h (x ∷ xs) (a ∷ answers) =
    cond (read_wrongly h boards words x a) (Some n) (first_wrong boards words (n + 1) (noted h boards words (event_in x a)) xs answers)

-- all that the judge has noted after these steps
abbrev pub heard : (boards : ℕ) (words : List ℕ) (h : List Event) → List Step → List Answer → List Event
heard boards words h [] answers = h
heard boards words h (x ∷ xs) [] = h
heard boards words h (x ∷ xs) (a ∷ answers) = heard boards words (noted h boards words (event_in x a)) xs answers

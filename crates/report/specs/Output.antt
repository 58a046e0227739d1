-- The text that is printed for a run: by its bytes alone.
use Rattle.std.specs.Prelude.{◌≡◌, ℕ, ◌+◌, List, [], ◌∷◌, ◌++◌, map, Some, None, Ok, Err, codes, decimal, Option, Result}
use Rattle.model.specs.Refusals.{number_of}
use Rattle.model.specs.declared.answer.Answer.{Answer}
use Rattle.model.specs.declared.step.Step.{Step}
use Rattle.grammar.specs.Printing.{place_text, word_text}
use Rattle.grammar.specs.Steps.{plain_step}
use Rattle.grammar.specs.declared.kind.Kind.TheVariants.{Run}
use Rattle.carries.specs.Tables.{lines_of}
use Rattle.state.specs.Opening.{opened}
use Rattle.state.specs.States.{State}
use Rattle.text.specs.Heading.{starting_words}
use Rattle.text.specs.Printing.{text_of}
use Rattle.text.specs.Reading.{Trace, reading}
use Rattle.text.specs.declared.fault.Fault.{Fault}
use Rattle.text.specs.declared.header.Header.{Header}
use Rattle.text.specs.declared.placed_step.PlacedStep.{PlacedStep}
use Rattle.report.specs.declared.line.Line.{Line}
use Rattle.rules.specs.Logs.{onto, events}
use Rattle.rules.specs.Rules.{KeepsModel}
use Rattle.report.specs.Judged.{first_wrong, heard}
use Rattle.report.specs.Plain.{fresh, answers}

-- the line for a step of that number, without its byte 10
abbrev pub answer_line : ℕ → Answer → List ℕ
answer_line n (Answer.Word w) = codes "r=" ++ place_text n w
answer_line n (Answer.Landed x) = codes "d=" ++ (decimal n ++ 46 ∷ word_text x.board x.cell x.word)
answer_line n Answer.NothingWaits = codes "d=" ++ decimal n
answer_line n Answer.Done = codes "ok=" ++ decimal n
answer_line n (Answer.Refused r) = codes "no=" ++ place_text n (number_of r)

-- the lines for some steps, of which the first has the number n
abbrev pub answer_lines : ℕ → List Answer → List (List ℕ)
answer_lines n [] = []
answer_lines n (a ∷ more) = answer_line n a ∷ answer_lines (n + 1) more

-- the last line: all reads are legal, or the first step that read wrongly
abbrev pub legal_line : Option ℕ → List ℕ
legal_line None = codes "legal=all"
legal_line (Some n) = codes "legal=" ++ decimal n

abbrev pub fault_line : Fault → List ℕ
fault_line f = codes "fault=" ++ place_text (number_of f.refusal) f.line

abbrev pub line_text : Line → List ℕ
line_text (Line.Answered n a) = answer_line n a
line_text (Line.FirstWrong o) = legal_line o
line_text (Line.Faulty f) = fault_line f

-- ── a run ──

abbrev pub steps_of : List PlacedStep → List Step
steps_of ps = map (λ p. plain_step p.step) ps

abbrev pub answers_to : Header → List Step → List Answer
answers_to h xs = answers (fresh h.boards h.entries (starting_words h)) xs

abbrev pub wrong_in : Header → List Step → List Answer → Option ℕ
wrong_in h xs given = first_wrong h.boards (starting_words h) 1 [] xs given

abbrev pub run_lines : Header → List Step → List (List ℕ)
run_lines h xs = answer_lines 1 (answers_to h xs) ++ legal_line (wrong_in h xs (answers_to h xs)) ∷ []

-- a text that is no run without a fault is answered by its first fault alone
abbrev pub lines_for : Result Trace Fault → List (List ℕ)
lines_for (Ok t) = run_lines t.header (steps_of t.steps)
lines_for (Err f) = fault_line f ∷ []

abbrev pub output_of : List ℕ → List ℕ
output_of text = text_of (lines_for (reading Run text))

-- ── what the judge finds ──

-- the bench that a run is performed on, by its words and its lines
abbrev pub bench_of : Header → State
bench_of h = opened h.boards h.entries (starting_words h) (lines_of []) 8

-- The answers of a run keep the memory model; the judge notes every event of the run in its turn and no other, and finds no
-- read wrong.
pub record ReadsRightly (h : Header) (xs : List Step) : Type 0 where
  pub model : KeepsModel (bench_of h) (onto [] xs (answers_to h xs))
  pub hears : heard h.boards (starting_words h) [] xs (answers_to h xs) ≡ events (onto [] xs (answers_to h xs))
  pub none_wrong : wrong_in h xs (answers_to h xs) ≡ None

abbrev pub AsRun : Result Trace Fault → Type 0
AsRun (Ok t) = ReadsRightly t.header (steps_of t.steps)
AsRun (Err f) = Unit {0}

-- of every text that is a run; so the last line of its output is legal=all
unfoldable pub AlwaysLegal : Type 0
AlwaysLegal = (text : List ℕ) → AsRun (reading Run text)

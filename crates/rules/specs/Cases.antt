-- Lists of calls for which the rules speak: what they ask for is met by an actual bench. And the worked cases, together.
use Rattle.std.specs.Prelude.{◌≡◌, List, [], ◌∷◌, Ok, Err}
use Rattle.model.specs.declared.answer.Answer.{Answer}
use Rattle.model.specs.declared.refusal.Refusal.{Refusal}
use Rattle.model.specs.declared.step.Step.{Step}
use Rattle.judge.specs.Examples.{Worked}
use Rattle.protocol.specs.Rules.{first_five}
use Rattle.protocol.specs.Runs.{OwnersOnly, touches}
use Rattle.state.specs.Cases.{small, BenchCases}
use Rattle.state.specs.States.{State}
use Rattle.state.specs.Steps.{carry_of}
use Rattle.rules.specs.Calls.{Call, stepped, ran, Since, log_of}
use Rattle.rules.specs.Logs.{Logged, moves, read_of}
use Rattle.rules.specs.Rules.{OverAllCalls}

-- Board 0 acquires, writes 1 and reads it, in a run; a run whose list of answers is too short; board 0 ejects, the carry
-- lands, and it releases; board 1 acquires and reads (newest first).
abbrev pub owned_calls : List Call
owned_calls =
    stepped (Step.Read 1 0) (Answer.Word 1)
    ∷ stepped (Step.Acquire 1 0) Answer.Done
    ∷ ran (Step.Eject 0 0 ∷ Step.Release 0 0 ∷ Step.Land ∷ Step.Release 0 0 ∷ [])
    (Answer.Done ∷ Answer.Done ∷ Answer.Done ∷ Answer.Done ∷ Answer.NothingWaits ∷ []) (Ok tt)
    (Answer.Done ∷ Answer.Refused Refusal.UnsettledWrite ∷ Answer.Landed (carry_of 0 0 1) ∷ Answer.Done ∷ Answer.NothingWaits ∷ [])
    ∷ ran (Step.Write 0 0 9 ∷ []) [] (Err Refusal.AnswersTooShort) []
    ∷ ran (Step.Acquire 0 0 ∷ Step.Write 0 0 1 ∷ Step.Read 0 0 ∷ [])
    (Answer.Done ∷ Answer.Done ∷ Answer.Done ∷ []) (Ok tt)
    (Answer.Done ∷ Answer.Done ∷ Answer.Word 1 ∷ [])
    ∷ []

-- The six steps of the boards 0 and 1, with a write back, a landing and refused steps between them (newest first).
abbrev pub six_calls : List Call
six_calls =
    stepped (Step.Read 1 0) (Answer.Word 2)
    ∷ stepped (Step.Acquire 1 0) Answer.Done
    ∷ stepped (Step.Acquire 0 1) (Answer.Refused Refusal.NoSuchCell)
    ∷ stepped (Step.Write 1 0 2) Answer.Done
    ∷ ran (Step.Release 0 0 ∷ Step.WriteBack 0 0 ∷ Step.Land ∷ Step.Release 0 0 ∷ [])
    (Answer.Done ∷ Answer.Done ∷ Answer.Done ∷ Answer.Done ∷ []) (Ok tt)
    (Answer.Refused Refusal.UnsettledWrite ∷ Answer.Done ∷ Answer.Landed (carry_of 0 0 1) ∷ Answer.Done ∷ [])
    ∷ stepped (Step.Acquire 1 0) (Answer.Refused Refusal.OwnedByAnother)
    ∷ stepped (Step.Write 0 0 1) Answer.Done
    ∷ stepped (Step.Acquire 0 0) Answer.Done
    ∷ []

-- on a bench of two boards, one cell that starts with 0, one entry, and lines of eight
pub record Met : Type 0 where
  pub owned : (s : State) × Since (small 8) owned_calls s
  pub owned_read : (older : List Logged) × (log_of owned_calls ≡ read_of 1 0 1 ∷ older) × OwnersOnly (moves 0 (read_of 1 0 1 ∷ older))
  pub six : (s : State) × Since (small 8) six_calls s
  pub six_read : (older : List Logged) × (log_of six_calls ≡ read_of 1 0 2 ∷ older) × (touches (moves 0 older) ≡ first_five 0 1)

pub record BenchKeepsModel : Type 0 where
  pub over_all_calls : OverAllCalls
  pub met : Met

-- shut, so that a search in a function that promises the rules does not open them
unfoldable pub RulesOfBench : Type 0
RulesOfBench = BenchKeepsModel

-- the words that are readable in three short histories, and what five short lists of steps answer, whatever is chosen
pub record CasesTogether : Type 0 where
  pub readable : Worked
  pub bench : BenchCases

unfoldable pub WorkedCases : Type 0
WorkedCases = CasesTogether

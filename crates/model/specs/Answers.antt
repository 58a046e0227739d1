-- What a call of a bench answers, as the answer of a step.
use Rattle.std.specs.Prelude.{ℕ, Some, None, Ok, Err, Option, Result}
use Rattle.model.specs.declared.answer.Answer.{Answer}
use Rattle.model.specs.declared.carry.Carry.{Carry}
use Rattle.model.specs.declared.refusal.Refusal.{Refusal}

-- a call with nothing to tell but that it is done, answered by a
abbrev pub answered : Answer → Result (Unit {0}) Refusal → Answer
answered a (Ok u) = a
answered a (Err e) = Answer.Refused e

abbrev pub done_answer : Result (Unit {0}) Refusal → Answer
done_answer r = answered Answer.Done r

abbrev pub word_answer : Result ℕ Refusal → Answer
word_answer (Ok w) = Answer.Word w
word_answer (Err e) = Answer.Refused e

abbrev pub land_answer : Result (Option Carry) Refusal → Answer
land_answer (Ok (Some x)) = Answer.Landed x
land_answer (Ok None) = Answer.NothingWaits
land_answer (Err e) = Answer.Refused e

-- Worked cases of a bench: two boards, one cell, one entry, the starting word 0 and lines of the given length.
use Rattle.std.specs.Prelude.{◌≡◌, ℕ, zero, suc, List, [], ◌∷◌, ◌++◌, map, replicate, Some, None}
use Rattle.model.specs.Refusals.{number_of}
use Rattle.model.specs.declared.answer.Answer.{Answer}
use Rattle.model.specs.declared.carry.Carry.{Carry}
use Rattle.model.specs.declared.refusal.Refusal.{Refusal}
use Rattle.model.specs.declared.step.Step.{Step}
use Rattle.state.specs.Chains.{Chain}
use Rattle.state.specs.Opening.{opened}
use Rattle.state.specs.States.{State}
use Rattle.state.specs.Steps.{carry_of}

-- a path on which nothing waits
abbrev pub idle : List (List Carry)
idle = replicate 8 []

abbrev pub small : (long : ℕ) → State
small n = opened 2 1 (0 ∷ []) idle n

-- The steps have these answers whatever is chosen on the way, and they do have them.
pub record Surely (s : State) (calls : List Step) (answers : List Answer) : Type 0 where
  pub only : (others : List Answer) (t : State) → Chain s calls others t → others ≡ answers
  pub some : (t : State) × Chain s calls answers t

-- a write and a write back of cell 0 by board 0, n times
abbrev pub write_backs : ℕ → List Step
write_backs zero = []
write_backs (suc n) = Step.Write 0 0 n ∷ Step.WriteBack 0 0 ∷ write_backs n

pub record BenchCases : Type 0 where
  pub numbers : map number_of (Refusal.UnsettledWrite ∷ Refusal.OwnedAlready ∷ Refusal.OwnedByAnother ∷ Refusal.LineFull ∷ Refusal.SizeOutOfRange ∷ []) ≡ 17 ∷ 12 ∷ 11 ∷ 18 ∷ 3 ∷ []
  -- a board that ejects its write reads it back before it has landed
  pub read_before_landing : Surely (small 8)
      (Step.Write 0 0 1 ∷ Step.Eject 0 0 ∷ Step.Read 0 0 ∷ [])
      (Answer.Done ∷ Answer.Done ∷ Answer.Word 1 ∷ [])
  -- a release is refused with 17 while the write is dirty, and while it is in flight; once it has landed it is accepted
  pub release : Surely (small 8)
      (Step.Acquire 0 0 ∷ Step.Write 0 0 1 ∷ Step.Release 0 0 ∷ Step.WriteBack 0 0 ∷ Step.Release 0 0 ∷ Step.Land ∷ Step.Release 0 0 ∷ [])
      (Answer.Done ∷ Answer.Done ∷ Answer.Refused Refusal.UnsettledWrite ∷ Answer.Done ∷ Answer.Refused Refusal.UnsettledWrite ∷ Answer.Landed (carry_of 0 0 1) ∷ Answer.Done ∷ [])
  -- an acquire is refused with 12 to the owner, and with 11 to another board
  pub acquire : Surely (small 8)
      (Step.Acquire 0 0 ∷ Step.Acquire 0 0 ∷ Step.Acquire 1 0 ∷ [])
      (Answer.Done ∷ Answer.Refused Refusal.OwnedAlready ∷ Answer.Refused Refusal.OwnedByAnother ∷ [])
  -- eight write backs of one cell wait and the ninth is refused with 18; where lines have length 4, the fifth is
  pub ninth_write_back : Surely (small 8) (write_backs 9) (replicate 17 Answer.Done ++ Answer.Refused Refusal.LineFull ∷ [])
  pub fifth_write_back : Surely (small 4) (write_backs 5) (replicate 9 Answer.Done ++ Answer.Refused Refusal.LineFull ∷ [])
  -- 64 cells open; 65 and 0 are refused with 3
  pub cells_64 : (opened 2 1 (replicate 64 0) idle 8).refusal ≡ None
  pub cells_65 : (opened 2 1 (replicate 65 0) idle 8).refusal ≡ Some Refusal.SizeOutOfRange
  pub cells_0 : (opened 2 1 [] idle 8).refusal ≡ Some Refusal.SizeOutOfRange

-- What an opening shows: one with boards was accepted, and a refused one has none.
use Rattle.std.proofs.Common.{◌≡◌, ℕ, ◌<◌, List, get_or, Some, None, Option, refl, arith}
use Rattle.model.specs.declared.carry.Carry.{Carry}
use Rattle.model.specs.declared.refusal.Refusal.{Refusal}
use Rattle.protocol.specs.Runs.{Opening}
use Rattle.state.specs.Cells.{project}
use Rattle.state.specs.Opening.{refusal_of, opened_by, opened}
use Rattle.state.proofs.Opened.{accepted, opened-entry, opened-flight, opened-owner}

module _ (boards entries : ℕ) (words : List ℕ) (lines : List (List Carry)) (long : ℕ) where
  -- by why it was refused, if it was
  some-boards : (r : Option Refusal) → 0 < (opened_by r boards entries words lines long).boards → r ≡ None
  some-boards None h = refl
  some-boards (Some r) h = absurd (omega arith)

  no_boards : (o : Option Refusal) (r : Refusal) → (opened_by o boards entries words lines long).refusal ≡ Some r → (opened_by o boards entries words lines long).boards ≡ 0
  no_boards None r e = cc
  no_boards (Some q) r e = refl

  pub refused-boards : (r : Refusal) → (opened boards entries words lines long).refusal ≡ Some r → (opened boards entries words lines long).boards ≡ 0
  refused-boards = no_boards (refusal_of boards entries words lines)

  -- an accepted one has some
  boards-of : (r : Option Refusal) → refusal_of boards entries words lines ≡ r → (opened_by r boards entries words lines long).refusal ≡ None → 0 < (opened_by r boards entries words lines long).boards
  boards-of None e h = omega (arith, (accepted boards entries words lines e).some_board)
  boards-of (Some r) e h = cc

  pub accepted-boards : (opened boards entries words lines long).refusal ≡ None → 0 < (opened boards entries words lines long).boards
  accepted-boards = boards-of (refusal_of boards entries words lines) refl

  -- at each cell, a bench with boards is as the machine is before its first move
  pub opening_of : 0 < (opened boards entries words lines long).boards → (c : ℕ) → Opening (get_or (opened boards entries words lines long).words c 0) (project c (opened boards entries words lines long))
  opening_of some c =
      record {
        entry = opened-entry boards entries words lines long c;
        flight = opened-flight boards entries words lines long (accepted boards entries words lines (some-boards (refusal_of boards entries words lines) some)).lines c;
        owner = opened-owner boards entries words lines long c;
        memory = refl;
      }

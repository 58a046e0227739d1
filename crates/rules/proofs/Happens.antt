-- The lists of calls for which the rules speak: a bench does answer so.
use Rattle.std.proofs.Common.{refl, arith}
use Rattle.state.specs.Cases.{small}
use Rattle.state.specs.Chains.{end, link}
use Rattle.state.specs.States.{State}
use Rattle.state.specs.Steps.{Choice}
use Rattle.rules.specs.Calls.{Since, opening, step, run}
use Rattle.rules.specs.Cases.{owned_calls, six_calls, Met}

-- every step of them by the first place, and the lane of board 0 and cell 0; the oldest call stands innermost
abbrev first : Choice
first = record { place = 0; board = 0; cell = 0 }

owned : (s : State) × Since (small 8) owned_calls s
owned = (
  _,
  step (step (run (run (run opening
      (record { room = omega arith; chain = link (first, refl) (link (first, refl) (link (first, refl) end)); rest = refl }))
      (record { short = omega arith; refusal = refl; answers = refl; state = refl }))
      (record { room = omega arith; chain = link (first, refl) (link (first, refl) (link (first, refl) (link (first, refl) end))); rest = refl }))
      (first, refl)) (first, refl),
)

six : (s : State) × Since (small 8) six_calls s
six = (
  _,
  step (step (step (step (run (step (step (step opening
      (first, refl)) (first, refl)) (first, refl))
      (record { room = omega arith; chain = link (first, refl) (link (first, refl) (link (first, refl) (link (first, refl) end))); rest = refl }))
      (first, refl)) (first, refl)) (first, refl)) (first, refl),
)

pub met : Met
met = record { owned = owned; owned_read = (_, refl, (refl, (tt, (tt, (tt, (tt, (tt, (refl, (refl, (tt, tt)))))))))); six = six; six_read = (_, refl, refl) }

use Rattle.std.proofs.Common.{ℕ, ◌<◌, length, None, sym, ap, ◌∙◌, rules}
use Rattle.std.specs.Option.{option_and_then}
use Rattle.std.specs.List.{HoldsAt}
use Rattle.model.specs.declared.event.Event.{Event}
use Rattle.order.specs.Test.{owner_by}
use Rattle.order.proofs.Owners.{Changes, Keeps, owner-kept, owner-last}
use Rattle.order.proofs.owner.last_change.Goals as goal

pub returns-in_err-place : goal.returns-in_err-place
returns-in_err-place c =
    let h = c.args.history.now in
    let keep : (k : ℕ) → k < length h → HoldsAt (Keeps c.args.cell) h k = search rules in
    owner-kept c.args.cell h None keep ∙ ap (option_and_then (λ (e : Event). owner_by e.action e.board None)) (sym c.from_residual.ensures)

pub returns : goal.returns
returns c =
    let h = c.args.history.now in
    let place = c.in_ok-place.place in
    let last : (place < length h) × HoldsAt (Changes c.args.cell) h place × ((k : ℕ) → place < k → k < length h → HoldsAt (Keeps c.args.cell) h k) = search rules in
    owner-last c.args.cell h None place _ last.0 last.1 last.2

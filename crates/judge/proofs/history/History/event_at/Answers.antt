use Rattle.std.proofs.Common.{◌≡◌, suc, None, sym, ap, ◌∙◌, inl, arith, rules}
use Rattle.std.proofs.lemmas.Grind.{common_steps}
use Rattle.std.proofs.lemmas.Option.{gets}
use Rattle.std.specs.List.{slice_get}
use Rattle.order.specs.Order.{event_at}
use Rattle.order.proofs.History.{at_none}
use Rattle.judge.proofs.Finding.{get-event}
use Rattle.judge.proofs.history.History.event_at.Goals as goal

pub returns-in_err-place : goal.returns-in_err-place
returns-in_err-place c =
    let none : c.from_residual.result ≡ None = search rules in
    none ∙ sym (at_none c.args.self.events.now c.args.number (inl (omega (arith, c.in_err-place.ensures))))

pub returns : goal.returns
returns c =
    let h = c.args.self.events.now in
    let place = c.in_ok-place.place in
    let got : c.copied.result ≡ slice_get h place = grind (arith, common_steps, gets, c.get.ensures.lookup) in
    let same : suc place ≡ c.args.number = omega (arith, c.in_ok-place.ensures) in
    got ∙ get-event h place ∙ ap (event_at h) same

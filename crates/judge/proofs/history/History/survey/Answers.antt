use Rattle.std.proofs.Common.{ℕ, suc, ◌+◌, List, drop, sym, ap, ◌∙◌, add-one}
use Rattle.std.proofs.lemmas.List.{at_drop_more, at_drop_all}
use Rattle.model.specs.declared.event.Event.{Event}
use Rattle.order.specs.Test.{views_from}
use Rattle.order.proofs.History.{at-get_or}
use Rattle.order.proofs.Tests.{board-at}
use Rattle.judge.proofs.history.History.survey.Goals as goal

pub take_in-requires-clause-board : goal.take_in-requires-clause-board
take_in-requires-clause-board c = let h = c.args.self.events.now in board-at h (suc c.loop-i.i) _ c.args.self.boards (at-get_or h c.loop-i.i _ c.loop-i-test.true)

pub loop-i-preserved : goal.loop-i-preserved
loop-i-preserved c =
    let h = c.args.self.events.now in
    let i = c.loop-i.i in
    ap (views_from c.args.cell (suc (i + 1)) (drop (i + 1) h)) c.take_in.ensures
    ∙ sym (at_drop_more (λ (z : List Event). views_from c.args.cell (i + 1) z c.loop-i.known) h i _ c.loop-i-test.true)
    ∙ ap (λ (n : ℕ). views_from c.args.cell n (drop i h) c.loop-i.known) (add-one i)
    ∙ c.loop-i.invariant

pub returns : goal.returns
returns c =
    sym (at_drop_all (λ (z : List Event). views_from c.args.cell (suc c.loop-i.i) z c.loop-i.known) c.args.self.events.now c.loop-i.i c.loop-i-test.false)
    ∙ c.loop-i.invariant

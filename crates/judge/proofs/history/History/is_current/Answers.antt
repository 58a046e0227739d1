use Rattle.std.proofs.Common.{◌∙◌, sym}
use Rattle.order.proofs.Tests.{board-at}
use Rattle.judge.proofs.Finding.{at-some}
use Rattle.judge.proofs.history.History.is_current.Goals as goal

pub met_by-requires : goal.met_by-requires
met_by-requires c = board-at c.args.self.events.now c.args.number _ c.args.self.boards (sym c.in-Some.ensures)

pub returns-in-Some : goal.returns-in-Some
returns-in-Some c =
    let w = c.args.wanted.now in
    c.met_by.ensures
    ∙ sym (at-some w.over c.args.self.events.now w.start w.cell w.word c.args.number c.in-Some.event c.in-Some.ensures)

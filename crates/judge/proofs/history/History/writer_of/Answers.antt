use Rattle.std.proofs.Common.{◌≡◌, rules}
use Rattle.order.specs.Test.{writer_of}
use Rattle.judge.proofs.Finding.{writer-found}
use Rattle.judge.proofs.history.History.writer_of.Goals as goal

pub returns-clause-bound : goal.returns-clause-bound
returns-clause-bound c =
    let h = c.args.self.events.now in
    let is : c.written_by.result ≡ writer_of h c.args.cell c.args.number = search rules in
    writer-found h c.args.cell c.args.number c.written_by.result c.args.self.boards is

use Rattle.judge.proofs.Latest.{settled}
use Rattle.judge.proofs.history.History.latest.Goals as goal

pub returns : goal.returns
returns c = settled c.args.cell c.args.board c.args.self.events.now c.newest.result c.newest.ensures

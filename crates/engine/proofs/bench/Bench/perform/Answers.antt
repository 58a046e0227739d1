use Rattle.state.proofs.Protocol.{follows}
use Rattle.engine.proofs.bench.Bench.perform.Goals as goal

pub returns-clause-protocol : goal.returns-clause-protocol
returns-clause-protocol g c = follows c.args.self.now.state c.take-answer.new.self.state c.args.step c.take-answer.result c.take-answer.ensures.step c.whole.ensures.sound

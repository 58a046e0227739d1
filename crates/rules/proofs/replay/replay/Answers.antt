use Rattle.std.proofs.Common.{rules}
use Rattle.rules.proofs.Together.{rules-of-bench, ran-from}
use Rattle.rules.proofs.replay.replay.Goals as goal

pub returns-clause-model : goal.returns-clause-model
returns-clause-model g c =
    ran-from c.args.boards c.args.entries (g.H.Source.words c.args.home) (g.P.Path.lines c.args.path) g.P.Path.LENGTH (g.met.P.Path.proper c.args.path)
    c.args.steps.now c.args.answers.now c.run-result.result c.run-result.new.answers c.run-result.new.self.state (search rules)

pub returns-clause-rules : goal.returns-clause-rules
returns-clause-rules g c = rules-of-bench

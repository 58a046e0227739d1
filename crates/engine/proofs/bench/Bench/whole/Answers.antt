use Rattle.engine.proofs.Sounds.{whole}
use Rattle.engine.proofs.bench.Bench.whole.Goals as goal

pub returns : goal.returns
returns g c = whole g.H.Source.words g.P.Path.lines g.P.Path.LENGTH c.self.inside c.self.view_is c.self.invariant (g.met.P.Path.proper c.self.inside.path)

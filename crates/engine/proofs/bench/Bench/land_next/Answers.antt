use Rattle.std.proofs.Common.{rules}
use Rattle.engine.proofs.Ways.{any, quiet-lines}
use Rattle.engine.proofs.bench.Bench.land_next.Goals as goal

pub returns-then-self-eq0-clause-step : goal.returns-then-self-eq0-clause-step
returns-then-self-eq0-clause-step g c = (any, search rules)

pub returns-in_default-clause-step : goal.returns-in_default-clause-step
returns-in_default-clause-step g c =
    let quiet = quiet-lines (g.P.Path.lines c.self.inside.path) c.in_default.ensures.landed.0 in
    let none = c.in_default.ensures.landed.0 0 in
    (any, search rules)

pub returns-in-Some-clause-step : goal.returns-in-Some-clause-step
returns-in-Some-clause-step g c = (record { place = 0; board = c.in-Some.carry.board; cell = c.in-Some.carry.cell }, search rules)

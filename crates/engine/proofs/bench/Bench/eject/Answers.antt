use Rattle.std.proofs.Common.{rules}
use Rattle.engine.proofs.Ways.{any}
use Rattle.engine.proofs.bench.Bench.eject.Goals as goal

pub returns-in_err-at-clause-step : goal.returns-in_err-at-clause-step
returns-in_err-at-clause-step g c = (any, search rules)

pub returns-clause-step : goal.returns-clause-step
returns-clause-step g c = (any, search rules)

use Rattle.std.proofs.Common.{rules}
use Rattle.engine.proofs.Ways.{any}
use Rattle.engine.proofs.bench.Bench.read_at.Goals as goal

pub returns-in-Clean-clause-step : goal.returns-in-Clean-clause-step
returns-in-Clean-clause-step g c = (any, search rules)

pub returns-in-Clean-2-clause-step : goal.returns-in-Clean-2-clause-step
returns-in-Clean-2-clause-step g c = (any, search rules)

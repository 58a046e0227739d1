use Rattle.std.proofs.Common.{rules}
use Rattle.engine.proofs.Ways.{any}
use Rattle.engine.proofs.bench.Bench.write_at.Goals as goal

pub returns-in-Clean-clause-step : goal.returns-in-Clean-clause-step
returns-in-Clean-clause-step g c = (any, search rules)

use Rattle.state.proofs.Cases.{bench-cases}
use Rattle.state.proofs.cases_of_benches.Goals as goal

pub returns : goal.returns
returns c = bench-cases

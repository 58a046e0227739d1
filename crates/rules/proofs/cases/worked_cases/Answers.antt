use Rattle.rules.proofs.Together.{worked-cases}
use Rattle.rules.proofs.cases.worked_cases.Goals as goal

pub returns : goal.returns
returns c = worked-cases

use Rattle.state.proofs.Laws.{step-laws}
use Rattle.state.proofs.laws_of_steps.Goals as goal

pub returns : goal.returns
returns c = step-laws

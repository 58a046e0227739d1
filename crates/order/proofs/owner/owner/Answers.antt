use Rattle.order.proofs.Laws.{laws-of-order}
use Rattle.order.proofs.Owners.{owner-decided}
use Rattle.order.proofs.owner.owner.Goals as goal

pub returns-clause-decided : goal.returns-clause-decided
returns-clause-decided c = owner-decided

pub returns-clause-laws : goal.returns-clause-laws
returns-clause-laws c = laws-of-order

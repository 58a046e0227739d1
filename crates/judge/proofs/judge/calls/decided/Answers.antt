use Rattle.order.proofs.Laws.{laws-of-order}
use Rattle.order.proofs.Legals.{legal-decided}
use Rattle.order.proofs.Owners.{owner-decided}
use Rattle.order.proofs.Tests.{readable-decided}
use Rattle.judge.proofs.Discipline.{discipline-decided}
use Rattle.judge.proofs.Examples.{examples}
use Rattle.judge.proofs.judge.calls.decided.Goals as goal

pub returns : goal.returns
returns c =
    record {
      owner = owner-decided;
      discipline = discipline-decided;
      laws = laws-of-order;
      readable = readable-decided;
      legal = legal-decided;
      examples = examples;
    }

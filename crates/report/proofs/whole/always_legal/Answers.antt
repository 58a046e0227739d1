use Rattle.report.proofs.Always.{always-legal}
use Rattle.report.proofs.whole.always_legal.Goals as goal

pub returns : goal.returns
returns c = always-legal

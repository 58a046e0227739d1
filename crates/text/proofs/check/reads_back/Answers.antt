use Rattle.text.proofs.ReadBack.{reads-back}
use Rattle.text.proofs.check.reads_back.Goals as goal

pub returns : goal.returns
returns c = reads-back

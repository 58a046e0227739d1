use Rattle.protocol.proofs.Keeps.{protocol-keeps-model}
use Rattle.protocol.proofs.protocol_keeps_model.Goals as goal

pub returns : goal.returns
returns c = protocol-keeps-model

-- The protocol keeps the memory model: the theorems together.
use Rattle.protocol.specs.Rules.{ProtocolKeepsModel}
use Rattle.protocol.proofs.Examples.{rules-happen}
use Rattle.protocol.proofs.Kept.{reads-legal}
use Rattle.protocol.proofs.Lines.{owner-reads-last}
use Rattle.protocol.proofs.Owned.{owners-kept}
use Rattle.protocol.proofs.Six.{six_steps}
use Rattle.protocol.proofs.Steps.{guarded-moves-happen}

pub protocol-keeps-model : ProtocolKeepsModel
protocol-keeps-model = record { guarded = guarded-moves-happen; legal = reads-legal; owners = owners-kept; last = owner-reads-last; six_steps = six_steps; happen = rules-happen }

use Rattle.station.proofs.FalseLaw.{false-exactly}
use Rattle.station.proofs.log.false_exactly.Goals as goal

pub returns : goal.returns
returns c = false-exactly

use Rattle.station.proofs.ZeroLaw.{zero-exactly}
use Rattle.station.proofs.firmware.zero_exactly.Goals as goal

pub returns : goal.returns
returns c = zero-exactly

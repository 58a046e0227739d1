use Rattle.std.proofs.Common.{rules}
use Rattle.engine.proofs.Ways.{any}
use Rattle.engine.proofs.bench.Bench.add.Goals as goal

pub returns-then-not-has_room-clause-added : goal.returns-then-not-has_room-clause-added
returns-then-not-has_room-clause-added g c = (any, λ a. search rules)

pub returns-clause-added : goal.returns-clause-added
returns-clause-added g c =
    let stored = rw c.unwrap-cache.ensures at c.store.ensures in
    (record { place = stored.0; board = 0; cell = 0 }, λ a. search rules)

use Rattle.std.proofs.Common.{rules}
use Rattle.cache.proofs.Looks.{offered}
use Rattle.cache.proofs.cache.Cache.place_for.Goals as goal

pub returns : goal.returns
returns c = offered c.args.self.now.places.at c.args.cell c.find.result c.or_else.result c.find.ensures (search rules)

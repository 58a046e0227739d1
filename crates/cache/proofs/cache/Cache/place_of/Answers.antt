use Rattle.std.proofs.Common.{rules}
use Rattle.cache.proofs.Looks.{looked-up}
use Rattle.cache.proofs.cache.Cache.place_of.Goals as goal

pub returns : goal.returns
returns c = looked-up c.args.self.now.places.at c.args.cell c.find.result c.map_or.result c.args.self.now.distinct c.find.ensures (search rules)

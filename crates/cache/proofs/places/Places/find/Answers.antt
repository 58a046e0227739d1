use Rattle.std.proofs.Common.{rules, tests}
use Rattle.std.proofs.lemmas.Iterator.{YieldsList-from_slice}
use Rattle.std.proofs.lemmas.Iterator.Search.{position_from_yields_List}
use Rattle.cache.specs.Places.{holds}
use Rattle.cache.proofs.Looks.{found}
use Rattle.cache.proofs.places.Places.find.Goals as goal

pub returns : goal.returns
returns c = found c.args.self.now.at c.args.cell c.position.result (position_from_yields_List (λ p. holds p c.args.cell) _ _ c.position.result c.position.ensures.ran (YieldsList-from_slice c.args.self.now.at cc) (λ x b q k. search (rules, tests)))

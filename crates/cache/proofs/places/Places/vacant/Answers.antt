use Rattle.std.proofs.Common.{rules, tests, not}
use Rattle.std.proofs.lemmas.Iterator.{YieldsList-from_slice}
use Rattle.std.proofs.lemmas.Iterator.Search.{position_from_yields_List}
use Rattle.cache.specs.Places.{is_taken}
use Rattle.cache.proofs.Looks.{vacant-found}
use Rattle.cache.proofs.places.Places.vacant.Goals as goal

pub returns : goal.returns
returns c = vacant-found c.args.self.now.at c.position.result (position_from_yields_List (λ p. not (is_taken p)) _ _ c.position.result c.position.ensures.ran (YieldsList-from_slice c.args.self.now.at cc) (λ x b q k. search (rules, tests)))

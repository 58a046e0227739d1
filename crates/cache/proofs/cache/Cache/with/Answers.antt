use Rattle.std.proofs.Common.{length, set, Some, sym, ap, ◌∙◌, subst}
use Rattle.std.proofs.lemmas.List.{length-set}
use Rattle.cache.specs.Places.{Distinct, place_for}
use Rattle.cache.proofs.Looks.{stored, stored-distinct}
use Rattle.cache.proofs.cache.Cache.with.Goals as goal

pub invariant_of-result : goal.invariant_of-result
invariant_of-result c =
    let ps = c.args.self.places.at in
    let after = c.put.ensures ∙ ap (set ps c.args.at) c.new.ensures in
    record {
      eight = ap length after ∙ length-set ps c.args.at (place_for c.args.cell c.args.entry) ∙ c.args.self.eight;
      distinct = subst Distinct (sym after) (stored-distinct ps c.args.cell c.args.at c.args.entry c.args.self.distinct c.requires);
    }

pub returns : goal.returns
returns c =
    let ps = c.args.self.places.at in
    let after = c.put.ensures ∙ ap (set ps c.args.at) c.new.ensures in
    stored ps c.args.cell c.args.at c.args.entry c.args.self.distinct c.requires ∙ ap Some (sym after)

use Rattle.std.proofs.Common.{◌≡◌, drop, min, ap, ◌∙◌, rules}
use Rattle.carries.specs.Held.{held}
use Rattle.carries.specs.Tables.{located}
use Rattle.carries.proofs.ByBoard.{located-removed, short-removed, landed-first}
use Rattle.carries.proofs.table.Table.land.Goals as goal

pub invariant_of-self : goal.invariant_of-self
invariant_of-self g c =
    let t = c.args.self.now in
    let rest : c.pop_at.new.self.items ≡ drop 1 (held t) = search rules in
    record {
      located = ap located rest ∙ located-removed (held t) 0 t.located;
      short = λ b. rw rest (short-removed (min g.row.LENGTH 8) (held t) 0 t.short b);
    }

pub returns-clause-landed : goal.returns-clause-landed
returns-clause-landed g c =
    let t = c.args.self.now in
    let rest : c.pop_at.new.self.items ≡ drop 1 (held t) = search rules in
    landed-first (held t) c.pop_at.result c.pop_at.new.self.items t.located c.pop_at.ensures.value rest

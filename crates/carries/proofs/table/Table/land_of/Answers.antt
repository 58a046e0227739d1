use Rattle.std.proofs.Common.{min, sym, ap, ◌∙◌}
use Rattle.carries.specs.Held.{held}
use Rattle.carries.specs.Tables.{located}
use Rattle.carries.proofs.ByBoard.{located-removed, short-removed, none-lands, lands}
use Rattle.carries.proofs.table.Table.land_of.Goals as goal

pub returns-in_err-place-clause-answer : goal.returns-in_err-place-clause-answer
returns-in_err-place-clause-answer g c = c.from_residual.ensures ∙ (none-lands c.args.board _ (rw c.deref.ensures.0 at (sym c.first_of.ensures ∙ c.in_err-place.was))).0

pub returns-in_err-place-clause-after : goal.returns-in_err-place-clause-after
returns-in_err-place-clause-after g c = (none-lands c.args.board _ (rw c.deref.ensures.0 at (sym c.first_of.ensures ∙ c.in_err-place.was))).1

pub returns-in_err-place-clause-rest : goal.returns-in_err-place-clause-rest
returns-in_err-place-clause-rest g c = (none-lands c.args.board _ (rw c.deref.ensures.0 at (sym c.first_of.ensures ∙ c.in_err-place.was))).2

pub invariant_of-self : goal.invariant_of-self
invariant_of-self g c =
    let t = c.args.self.now in
    let i = c.in_ok-place.place in
    record {
      located = ap located c.remove.ensures.items ∙ located-removed (held t) i t.located;
      short = λ b. rw c.remove.ensures.items (short-removed (min g.row.LENGTH 8) (held t) i t.short b);
    }

pub returns : goal.returns
returns g c =
    let t = c.args.self.now in
    let i = c.in_ok-place.place in
    let some = lands c.args.board (held t) i c.remove.result t.located (rw c.deref.ensures.0 at (sym c.first_of.ensures ∙ c.in_ok-place.was)) c.remove.ensures.value in
    record {
      answer = some.0;
      after = rw c.remove.ensures.items some.1;
      rest = c.remove.ensures.items ∙ some.2;
      landed = λ e. rw c.remove.ensures.items some.3;
      short = λ n s b. rw c.remove.ensures.items (short-removed n (held t) i s b);
      idle = λ e. cc;
    }

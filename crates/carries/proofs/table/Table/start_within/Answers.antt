use Rattle.std.proofs.Common.{min, length, sym, ap, ◌∙◌, arith}
use Rattle.carries.specs.Held.{held}
use Rattle.carries.specs.Tables.{lines_of, located}
use Rattle.carries.proofs.ByBoard.{checks, room, located-push, short-push, lines-push, line-of, started-is}
use Rattle.carries.proofs.table.Table.start_within.Goals as goal

pub push-requires : goal.push-requires
push-requires g c =
    let t = c.args.self.now in
    let x = c.args.carry in
    let on = checks x.board x.cell c.in_ok-check.field-0 (sym c.check.ensures ∙ c.in_ok-check.was) in
    omega (arith, room x.board (held t) t.located (λ b. omega (arith, t.short b)) on.0 (omega arith))

pub invariant_of-self : goal.invariant_of-self
invariant_of-self g c =
    let t = c.args.self.now in
    let x = c.args.carry in
    let on = checks x.board x.cell c.in_ok-check.field-0 (sym c.check.ensures ∙ c.in_ok-check.was) in
    record {
      located = ap located c.push.ensures.items ∙ located-push (held t) x t.located on.0 on.1;
      short = λ b. rw c.push.ensures.items (short-push (min g.row.LENGTH 8) (held t) x t.short (omega arith) b);
    }

pub returns-clause-after : goal.returns-clause-after
returns-clause-after g c =
    let t = c.args.self.now in
    let x = c.args.carry in
    let on = checks x.board x.cell c.in_ok-check.field-0 (sym c.check.ensures ∙ c.in_ok-check.was) in
    let room = c.waiting.ensures in
    ap lines_of c.push.ensures.items
    ∙ lines-push (held t) x on.0
    ∙ sym (started-is (min c.args.length (min g.row.LENGTH 8)) (lines_of (held t)) x on.0 on.1 (omega (arith, ap length (line-of (held t) x.board on.0))))

pub returns-clause-short : goal.returns-clause-short
returns-clause-short g c =
    let t = c.args.self.now in
    let x = c.args.carry in
    λ few b. rw c.push.ensures.items (short-push (min c.args.length 8) (held t) x few (omega arith) b)

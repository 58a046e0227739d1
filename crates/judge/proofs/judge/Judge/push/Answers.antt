use Rattle.std.proofs.Common.{◌<◌, min, length, take, ap, ◌∙◌, arith}
use Rattle.std.proofs.lemmas.List.{length-set, length-take-le, take_more_set}
use Rattle.order.specs.Test.{on_boards}
use Rattle.order.proofs.Tests.{boards-more}
use Rattle.judge.proofs.judge.Judge.push.Goals as goal

pub invariant_of-self : goal.invariant_of-self
invariant_of-self c =
    let judge = c.args.self.now in
    let list = judge.list.now in
    let noted = judge.noted in
    let room : noted < min 2048 (length list) = omega (arith, c.requires.room, length-take-le noted list judge.within) in
    record {
      few = omega arith;
      within = omega (arith, length-set list noted c.args.event);
      boards = ap on_boards (take_more_set list noted c.args.event (omega arith)) ∙ boards-more (take noted list) c.args.event judge.boards c.requires.board;
    }

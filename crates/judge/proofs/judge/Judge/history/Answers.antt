use Rattle.std.proofs.Common.{arith}
use Rattle.std.proofs.lemmas.List.{length-take-le}
use Rattle.judge.proofs.judge.Judge.history.Goals as goal

pub invariant_of-result : goal.invariant_of-result
invariant_of-result c =
    let j = c.args.self.now in
    record { boards = j.boards; few = omega (arith, length-take-le j.noted j.list.now, j.few, j.within) }

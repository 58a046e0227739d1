use Rattle.std.proofs.Common.{arith, rules}
use Rattle.std.proofs.lemmas.List.{length-take}
use Rattle.model.specs.declared.event.Event.{Event}
use Rattle.judge.proofs.Latest.{boards_take}
use Rattle.judge.proofs.history.History.up_to.Goals as goal

pub invariant_of-result : goal.invariant_of-result
invariant_of-result c = record { boards = search (rules, boards_take, c.args.self.boards); few = omega (arith, length-take {A = Event}, c.args.self.few) }

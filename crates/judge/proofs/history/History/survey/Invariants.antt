use Rattle.std.proofs.Common.{◌≡◌, suc, drop}
use Rattle.order.specs.Test.{views_from, views}
use Rattle.judge.proofs.history.History.survey.Given as goal

-- from the views so far, what is left leads to the views of the whole history
abbrev pub invariant-loop-i : goal.invariant-loop-i
invariant-loop-i l = let h = l.self.events.now in views_from l.cell (suc l.i) (drop l.i h) l.known ≡ views l.cell h

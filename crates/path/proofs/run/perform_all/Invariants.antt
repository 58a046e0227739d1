use Rattle.std.proofs.Common.{◌≡◌, take, drop}
use Rattle.path.specs.Runs.{Run}
use Rattle.path.proofs.run.perform_all.Given as goal

abbrev pub invariant-loop-i : goal.invariant-loop-i
invariant-loop-i g l =
    Run g.P.Path.LENGTH (g.P.Path.lines l.initial.path) (take l.i l.orders) (take l.i l.replies) (g.P.Path.lines l.path)
    × (drop l.i l.replies ≡ drop l.i l.initial.replies)

use Rattle.std.proofs.Common.{◌≡◌, take, drop}
use Rattle.state.specs.Runs.{Course}
use Rattle.engine.proofs.bench.Bench.perform_all.Given as goal

-- the steps so far are performed and answered, and the places from here on are untouched
abbrev pub invariant-loop-i : goal.invariant-loop-i
invariant-loop-i g l = record {
  course : Course g.P.Path.starts g.P.Path.lands l.initial.self.state l.initial.self.path (take l.i l.steps) (take l.i l.answers) l.self.state l.self.path;
  rest : drop l.i l.answers ≡ drop l.i l.initial.answers;
}

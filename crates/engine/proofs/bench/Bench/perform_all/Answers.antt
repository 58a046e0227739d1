use Rattle.std.proofs.Common.{◌≡◌, ◌+◌, ◌<◌, length, take, drop, sym, refl, subst, arith}
use Rattle.std.proofs.lemmas.Grind.{common_steps}
use Rattle.state.specs.Runs.{Course, end}
use Rattle.state.proofs.Runs.{forget-path, course-more, course-all}
use Rattle.engine.proofs.bench.Bench.perform_all.Goals as goal

pub loop-i-init : goal.loop-i-init
loop-i-init g c = record { course = end; rest = refl }

pub loop-i-preserved : goal.loop-i-preserved
loop-i-preserved g c =
    let s = c.args.self.now in
    let t = c.loop-i.self in
    let u = c.perform-answer.new.self in
    let steps = c.args.steps.now in
    let answers = c.loop-i.answers in
    let i = c.loop-i.i in
    let a = c.perform-answer.result in
    let place : i < length answers = omega arith in
    record {
      course =
          subst (λ l. Course g.P.Path.starts g.P.Path.lands s.state s.path (take (i + 1) steps) (take (i + 1) l) u.state u.path) (sym c.put.ensures)
          (course-more g.P.Path.starts g.P.Path.lands s.state t.state u.state s.path t.path u.path steps answers i _ a c.loop-i-test.true place c.loop-i.invariant.course c.perform-answer.ensures.step c.perform-answer.ensures.path);
      rest = grind (arith, common_steps);
    }

pub returns : goal.returns
returns g c =
    let at_end : c.loop-i.i ≡ length c.args.steps.now = omega arith in
    let course = course-all g.P.Path.starts g.P.Path.lands _ _ _ _ c.args.steps.now c.loop-i.answers c.loop-i.i at_end c.loop-i.invariant.course in
    record {
      run =
          record {
            room = c.requires;
            chain = forget-path g.P.Path.starts g.P.Path.lands course;
            rest = subst (λ n. drop n c.loop-i.answers ≡ drop n c.args.answers.now) at_end c.loop-i.invariant.rest;
          };
      path = course;
    }

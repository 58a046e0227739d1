use Rattle.std.proofs.Common.{◌≡◌, ◌<◌, length, take, drop, refl, subst, arith}
use Rattle.std.proofs.lemmas.Grind.{common_steps}
use Rattle.std.proofs.lemmas.List.{take_all}
use Rattle.path.specs.Runs.{Run, end}
use Rattle.path.proofs.Lanes.{in_order, run_more}
use Rattle.path.proofs.run.perform_all.Goals as goal

pub loop-i-init : goal.loop-i-init
loop-i-init g c = (end, refl)

pub loop-i-preserved : goal.loop-i-preserved
loop-i-preserved g c =
    let os = c.args.orders.now in
    let rs = c.loop-i.replies in
    let i = c.loop-i.i in
    let place : i < length rs = omega arith in (
      run_more g.P.Path.LENGTH (g.P.Path.lines c.args.path.now) (g.P.Path.lines c.loop-i.path) (g.P.Path.lines c.perform.new.path) os rs i _ c.perform.result
          c.loop-i-test.true place c.loop-i.invariant.0 c.perform.ensures,
      grind (arith, common_steps),
    )

pub returns : goal.returns
returns g c =
    let os = c.args.orders.now in
    let n = g.P.Path.LENGTH in
    let ls = g.P.Path.lines c.args.path.now in
    let ls' = g.P.Path.lines c.loop-i.path in
    let at_end : c.loop-i.i ≡ length os = omega arith in
    let run : Run n ls os (take (length os) c.loop-i.replies) ls' =
    subst (λ l. Run n ls l (take (length os) c.loop-i.replies) ls') (take_all (length os) os (omega arith))
    (subst (λ k. Run n ls (take k os) (take k c.loop-i.replies) ls') at_end c.loop-i.invariant.0) in
    record {
      run = run;
      rest = subst (λ k. drop k c.loop-i.replies ≡ drop k c.args.replies.now) at_end c.loop-i.invariant.1;
      lanes = in_order (g.met.P.Path.proper c.args.path.now).eight run;
    }

use Rattle.std.proofs.Common.{◌≡◌, length, ◌∙◌, arith}
use Rattle.std.proofs.lemmas.List.{take_at}
use Rattle.home.specs.Buffer.{overlay}
use Rattle.home.specs.PairHome.{words_of}
use Rattle.report.proofs.Replayed.{replayed}
use Rattle.report.proofs.run.BenchRun.answers.Goals as goal

-- the vector holds what its slice was left with
pub returns : goal.returns
returns c =
    let run = c.args.self.now in
    let home = c.memory.result in
    let given = c.as_mut_slice.result.now in
    let long : length given ≡ length run.steps.now = omega (arith, c.in_ok-answers.ensures.len) in
    take_at c.replay.new.answers _ _ (omega (arith, c.replay.auto.answers))
    ∙ replayed run.header run.in_range c.new.result c.replay.result.bench.path run.steps.now given c.replay.new.answers c.replay.result.bench.state
    (overlay (words_of home.below) home.places) c.replay.result.result c.memory.ensures c.new.ensures long c.replay.ensures.run c.replay.ensures.path

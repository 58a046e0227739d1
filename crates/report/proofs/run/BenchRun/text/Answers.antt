use Rattle.std.proofs.Common.{◌∙◌}
use Rattle.report.proofs.Replayed.{enough}
use Rattle.report.proofs.run.BenchRun.text.Goals as goal

pub first_wrong-wrong-requires : goal.first_wrong-wrong-requires
first_wrong-wrong-requires c =
    enough c.args.self.now.header c.args.self.now.steps.now c.as_slice.result.now (c.as_slice.ensures.value ∙ c.in_ok-answers.ensures)

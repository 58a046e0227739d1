use Rattle.report.proofs.Replayed.{header-known}
use Rattle.report.proofs.whole.report_run.Goals as goal

pub invariant_of-run : goal.invariant_of-run
invariant_of-run c = record { in_range = header-known c.args.text.now c.args.header c.requires }

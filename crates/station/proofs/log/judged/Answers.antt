use Rattle.std.proofs.Common.{◌≡◌, Ok, sym, ◌∙◌, rules}
use Rattle.station.proofs.Whole.{whole}
use Rattle.station.proofs.log.judged.Goals as goal

pub returns : goal.returns
returns c =
    let sound : c.check.result ≡ Ok c.in_ok-header.header = search rules in
    c.judge_under.ensures ∙ whole c.args.log.now c.in_ok-header.header (sym c.check.ensures.answer ∙ sound)

use Rattle.std.proofs.Common.{rules, ◌≡◌, ◌<◌, sym, ◌∙◌}
use Rattle.grammar.specs.Steps.{step_said}
use Rattle.text.specs.Readers.{lines_ahead, first_piece}
use Rattle.text.proofs.Steps.{step_room}
use Rattle.text.proofs.trace.Trace.next_step.Goals as goal

pub overflow_add-self : goal.overflow_add-self
overflow_add-self c =
    let t = c.args.self.now in
    let line = first_piece (lines_ahead c.skip_remarks.new.self) in
    let e : c.try_line-step.result ≡ step_said t.kind t.steps line = search rules in
    let h : t.steps < 2048 = step_room t.kind t.steps c.line-line.result line c.try_line-step.result c.in_ok-step.step (sym c.in_ok-step.was ∙ c.at_line.ensures) e in
    search rules

use Rattle.std.proofs.Common.{sym, arith, ◌∙◌}
use Rattle.std.proofs.lemmas.List.{take_rest}
use Rattle.text.proofs.Cuts.{no_line, line-is, line-passed}
use Rattle.text.proofs.reader.lines.take_line.Goals as goal

pub returns-in_err-n-clause-line : goal.returns-in_err-n-clause-line
returns-in_err-n-clause-line c =
    rw c.from_residual.ensures (no_line c.args.text.now _ c.args.at.now (take_rest c.args.text.now c.args.at.now.byte) (sym c.in_err-n.was ∙ c.line_end.ensures))

pub returns-clause-line : goal.returns-clause-line
returns-clause-line c =
    line-is c.args.text.now _ c.args.at.now (take_rest c.args.text.now c.args.at.now.byte) c.in_ok-n.n (sym c.in_ok-n.was ∙ c.line_end.ensures)

pub returns-clause-further : goal.returns-clause-further
returns-clause-further c =
    line-passed c.args.text.now _ c.args.at.now (take_rest c.args.text.now c.args.at.now.byte) c.in_ok-n.n (sym c.in_ok-n.was ∙ c.line_end.ensures) _ c.past.ensures (omega arith) (omega arith)

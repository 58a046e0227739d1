use Rattle.std.proofs.Common.{◌≡◌, codes, arith}
use Rattle.grammar.proofs.Bytes.{nine-is}
use Rattle.grammar.proofs.header_line.kind_of.Goals as goal

pub returns-in-116 : goal.returns-in-116
returns-in-116 c =
    let n = nine-is c.args.line.now (omega arith) in
    let e : c.args.line.now ≡ codes "trace=run" = cc in
    rw e

pub returns-in-116-2 : goal.returns-in-116-2
returns-in-116-2 c =
    let n = nine-is c.args.line.now (omega arith) in
    let e : c.args.line.now ≡ codes "trace=log" = cc in
    rw e

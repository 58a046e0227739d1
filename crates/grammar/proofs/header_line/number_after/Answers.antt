use Rattle.std.proofs.Common.{rules}
use Rattle.std.proofs.lemmas.Slice.Eq.{strip_prefix_is}
use Rattle.std.proofs.lemmas.Bool.Decides.{Decides-eqb}
use Rattle.grammar.proofs.Bytes.{after_is}
use Rattle.grammar.proofs.header_line.number_after.Goals as goal

pub returns : goal.returns
returns c =
    rw (← after_is c.args.front.now c.args.line.now _ (strip_prefix_is Decides-eqb _ _ _ c.strip_prefix.ensures.cases)) (search rules)

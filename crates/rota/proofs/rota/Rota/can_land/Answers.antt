use Rattle.std.proofs.Common.{get_or, arith}
use Rattle.std.proofs.lemmas.Bool.Decides.{nat_tests}
use Rattle.carries.specs.Held.{held}
use Rattle.carries.proofs.ByBoard.{line-past}
use Rattle.rota.specs.Turns.{fixed_turns}
use Rattle.rota.proofs.rota.Rota.can_land.Goals as goal

pub returns : goal.returns
returns c = grind (arith, nat_tests, line-past (held c.args.self.now.waiting) (get_or fixed_turns c.args.turn 0))

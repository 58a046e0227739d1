use Rattle.std.proofs.Common.{◌≡◌, ◌-◌, sym, subst, arith}
use Rattle.std.proofs.lemmas.Grind.{common_steps}
use Rattle.std.proofs.lemmas.List.Folds.{find-append}
use Rattle.std.specs.List.{range_with_len}
use Rattle.carries.specs.Held.{held, lines_in}
use Rattle.carries.proofs.ByBoard.{lines-length}
use Rattle.rota.specs.Turns.{fixed_turns, can_land, turn_to_land, Served}
use Rattle.rota.proofs.Fixed.{every_fixed}
use Rattle.rota.proofs.Rounds.{first_round, served-by}
use Rattle.rota.proofs.rota.Rota.next_turn.Goals as goal

pub returns : goal.returns
returns c =
    let p = c.args.self.now in
    let ls = lines_in p.waiting in
    let found : c.or_else.result ≡ turn_to_land fixed_turns ls p.turn = grind (arith, common_steps, find-append (can_land fixed_turns ls) (range_with_len p.turn (16 - p.turn)) (range_with_len 0 p.turn)) in
    record {
      value = found;
      served = subst (Served fixed_turns ls) (sym found) (served-by fixed_turns every_fixed ls (lines-length (held p.waiting)) p.turn _ (first_round (can_land fixed_turns ls) 16 p.turn p.within));
    }

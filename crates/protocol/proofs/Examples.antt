-- Runs that meet what the owner rule and the six steps ask for, made move by move from a cell that starts with 0.
use Rattle.std.proofs.Common.{◌≡◌, ℕ, List, [], ◌∷◌, None, refl, arith}
use Rattle.model.specs.declared.entry.Entry.{Entry}
use Rattle.model.specs.declared.event.Action.{Action}
use Rattle.model.specs.declared.event.Event.{Event}
use Rattle.protocol.specs.Machine.{Cell, Move, reads, writes, acquires, releases, writes_back, completes, ejects, rests, Guard}
use Rattle.protocol.specs.Runs.{event_of, noting, Run, opens, makes, elsewhere}
use Rattle.protocol.specs.Rules.{owned_moves, six_moves, RulesHappen}
use Rattle.protocol.proofs.Steps.{after, happens}

abbrev fresh : Cell
fresh = record { entry = λ p. Entry.Invalid; flight = λ p. []; owner = None; memory = 0 }

abbrev reached : List Move → Cell
reached [] = fresh
reached (m ∷ ms) = after m (reached ms)

start : Run 0 0 [] [] fresh
start = opens (record { entry = λ p. refl; flight = λ p. refl; owner = refl; memory = refl })

then : {h : List Event} {ms : List Move} (m : Move) → Run 0 0 h ms (reached ms) → Guard m (reached ms) → Run 0 0 (noting 0 m h) (m ∷ ms) (reached (m ∷ ms))
then {h} {ms} m r g = makes m r (happens m (reached ms) g)

dirty-not-invalid : {v : ℕ} → Entry.Dirty v ≡ Entry.Invalid → ⊥
dirty-not-invalid q = let z : ◌≡◌ {A = ℕ} 0 1 = cc in omega arith

other-cell : ◌≡◌ {A = ℕ} 1 0 → ⊥
other-cell q = omega arith

pub rules-happen : RulesHappen
rules-happen = record {
  owners = record {
    state = reached owned_moves;
    after = reached (reads 1 1 ∷ owned_moves);
    run =
        then (acquires 1)
        (then (releases 0)
        (then (completes 0 1)
        (then (ejects 0)
        (then (reads 0 1)
        (then (writes 0 1)
        (then (acquires 0) start refl)
        tt)
        refl)
        dirty-not-invalid)
        ([], refl))
        (refl, refl, refl))
        refl;
    read = happens (reads 1 1) (reached owned_moves) refl;
  };
  owners_only = (refl, (tt, (tt, (tt, (tt, (refl, (refl, (tt, tt))))))));
  six = record {
    state = reached six_moves;
    after = reached (reads 1 2 ∷ six_moves);
    run =
        then (acquires 1)
        (then (writes 1 2)
        (then (releases 0)
        (then (completes 0 1)
        (elsewhere (event_of 1 1 (Action.Write 3)) other-cell
        (then (writes_back 0)
        (then (writes 0 1)
        (then (acquires 0) start refl)
        tt)
        (1, refl))
        (happens rests (reached (writes_back 0 ∷ writes 0 1 ∷ acquires 0 ∷ [])) tt))
        ([], refl))
        (refl, refl, refl))
        tt)
        refl;
    read = happens (reads 1 2) (reached six_moves) refl;
  };
  first_five = refl;
}

-- In the fixed turns every board occurs.
use Rattle.std.proofs.Common.{◌≡◌, ℕ, zero, suc, Bool, true, ◌&&◌, refl}
use Rattle.std.proofs.lemmas.Bool.Decides.{Decides-below_and}
use Rattle.rota.specs.Turns.{fixed_turns, occurs, EveryBoard}

all-occur : ℕ → Bool
all-occur zero = true
all-occur (suc n) = occurs n fixed_turns && all-occur n

pub every_fixed : EveryBoard fixed_turns
unfolding all-occur
every_fixed = (Decides-below_and (λ b. occurs b fixed_turns) (λ b. occurs b fixed_turns ≡ true) all-occur (λ b. (λ e. e, λ e. e)) refl (λ _. refl) 8).0 refl

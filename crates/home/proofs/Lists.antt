-- Laws of `counted`, and what a source of words answers by `get`.
use Rattle.std.proofs.Common.{◌≡◌, ℕ, zero, suc, ◌<◌, min, List, [], ◌∷◌, length, get_or, take, set, refl, ap, arith}
use Rattle.std.specs.List.{slice_get}
use Rattle.std.specs.Option.{ok_or}
use Rattle.std.proofs.lemmas.Grind.{common_steps}
use Rattle.std.proofs.lemmas.List.{length-take, get_or-take}
use Rattle.std.proofs.lemmas.Option.{gets}
use Rattle.model.specs.declared.refusal.Refusal.TheVariants.{NoSuchCell}
use Rattle.home.specs.WordHome.{counted}
use Rattle.home.specs.Words.{read_at}

pub read_by_get : (ws : List ℕ) (c : ℕ) → ok_or (slice_get ws c) NoSuchCell ≡ read_at ws c
read_by_get ws c = grind (arith, common_steps, gets)

pub counted-length : (ws : List ℕ) → length (counted ws) ≡ min 65536 (length ws)
unfolding counted
counted-length ws = length-take 65536 ws

pub counted-at : (ws : List ℕ) (c : ℕ) → c < 65536 → get_or (counted ws) c 0 ≡ get_or ws c 0
unfolding counted
counted-at ws c h = get_or-take 65536 ws c 0 h

take-set : (n : ℕ) (ws : List ℕ) (c w : ℕ) → take n (set ws c w) ≡ set (take n ws) c w
take-set zero ws c w = refl
take-set (suc n) [] c w = refl
take-set (suc n) (x ∷ xs) zero w = refl
take-set (suc n) (x ∷ xs) (suc c) w = ap (λ l. x ∷ l) (take-set n xs c w)

pub counted-set : (ws : List ℕ) (c w : ℕ) → counted (set ws c w) ≡ set (counted ws) c w
unfolding counted
counted-set ws c w = take-set 65536 ws c w

pub ruleset counted_laws = (read_by_get, counted-length, counted-set)

-- The size of a pair home.
use Rattle.std.proofs.Common.{◌≡◌, ℕ, ◌≤◌, ltb, replicate, ap}
use Rattle.std.proofs.lemmas.Bool.{cond-false, le-ltb}
use Rattle.home.specs.PairHome.{size_for}

-- up to 64 cells it has as many as it is asked for
pub size-as-asked : (n : ℕ) → n ≤ 64 → size_for n ≡ n
size-as-asked n h = cond-false (ltb 64 n) 0 n (le-ltb 64 n h)

pub words-as-asked : (n w : ℕ) → n ≤ 64 → replicate (size_for n) w ≡ replicate n w
words-as-asked n w h = ap (λ m. replicate m w) (size-as-asked n h)

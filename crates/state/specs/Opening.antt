-- Opening a bench on a home with these words and a path with these lines.
use Rattle.std.specs.Prelude.{ℕ, Bool, true, false, cond, ◌&&◌, List, [], ◌∷◌, length, replicate, Some, None, Option, nat_le}
use Rattle.model.specs.declared.carry.Carry.{Carry}
use Rattle.model.specs.declared.refusal.Refusal.{Refusal}
use Rattle.cache.specs.declared.place.Place.{Place}
use Rattle.state.specs.States.{State}

-- no carry waits
abbrev pub quiet : List (List Carry) → Bool
quiet [] = true
quiet ([] ∷ ls) = quiet ls
quiet ((x ∷ xs) ∷ ls) = false

abbrev pub between : ℕ → ℕ → Bool
between n m = nat_le 1 n && nat_le n m

-- 1 to 8 boards, 1 to 64 cells and 1 to 8 entries; then an empty path
abbrev pub refusal_of : (boards entries : ℕ) → List ℕ → List (List Carry) → Option Refusal
refusal_of b e ws ls =
    cond (between b 8 && (between (length ws) 64 && between e 8)) (cond (quiet ls) None (Some Refusal.PathNotEmpty)) (Some Refusal.SizeOutOfRange)

-- empty caches, no owners, the home's words and the path's lines as they are
abbrev pub fresh : Option Refusal → (boards entries : ℕ) → List ℕ → List (List Carry) → (long : ℕ) → State
fresh r b e ws ls n =
    record {
      refusal = r;
      boards = b;
      entries = e;
      long = n;
      caches = replicate 8 (replicate 8 Place.Empty);
      owners = replicate 64 None;
      words = ws;
      lines = ls;
    }

-- a refused bench has no boards
abbrev pub opened_by : Option Refusal → (boards entries : ℕ) → List ℕ → List (List Carry) → (long : ℕ) → State
opened_by None b e ws ls n = fresh None b e ws ls n
opened_by (Some r) b e ws ls n = fresh (Some r) 0 0 ws ls n

abbrev pub opened : (boards entries : ℕ) → List ℕ → List (List Carry) → (long : ℕ) → State
opened b e ws ls n = opened_by (refusal_of b e ws ls) b e ws ls n

-- How long a carry at the head of its line waits, over whole runs of orders to a path that lands by turns.
use Rattle.std.specs.Prelude.{◌≡◌, ℕ, ◌<◌, ◌≤◌, List, [], ◌∷◌, ◌++◌, length, take, Some}
use Rattle.std.specs.Option.{option_to_list}
use Rattle.model.specs.declared.carry.Carry.{Carry}
use Rattle.carries.specs.Lines.{line, oldest, started, Proper}
use Rattle.carries.specs.Tables.{line_of}
use Rattle.path.specs.declared.order.Order.{Order}
use Rattle.path.specs.declared.order.Order.TheVariants.{Start, Land}
use Rattle.rota.specs.Turns.{landing}

-- the carries landed, in order, where lines of length n stand at ls, it is turn t, and the orders are given
abbrev pub landings : List ℕ → ℕ → List (List Carry) → ℕ → List Order → List Carry
landings ts n ls t [] = []
landings ts n ls t (Start x ∷ os) = landings ts n (started n ls x) t os
landings ts n ls t (Land ∷ os) = option_to_list (landing ts ls t).carry ++ landings ts n (landing ts ls t).lines (landing ts ls t).turn os

-- Whatever lines and turn a run of orders begins with and whatever it starts on the way: a carry that heads its line
-- is landed at the latest by the k-th landing that answers a carry. Of the first k that land, it is the first of its board.
abbrev pub LandsWithin : ℕ → List ℕ → ℕ → Type 0
LandsWithin k ts n =
    (ls : List (List Carry)) (t b : ℕ) (x : Carry) (xs : List Carry) (os : List Order)
    → Proper n ls
    → t < length ts
    → line ls b ≡ x ∷ xs
    → k ≤ length (landings ts n ls t os)
    → oldest (line_of b (take k (landings ts n ls t os))) ≡ Some x

-- Whole runs of a path: a list of orders, what each was answered, and how the lines come out.
use Rattle.std.specs.Prelude.{◌≡◌, ℕ, List, [], ◌∷◌, ◌++◌, length, take, drop, Some, None, Ok, Err, filter, Option, Result}
use Rattle.model.specs.declared.carry.Carry.{Carry}
use Rattle.model.specs.declared.refusal.Refusal.{Refusal}
use Rattle.carries.specs.Lines.{of_lane, lane, start_at, started}
use Rattle.carries.specs.Lines as lines
use Rattle.path.specs.declared.order.Order.{Order}
use Rattle.path.specs.declared.order.Order.TheVariants.{Start, Land}
use Rattle.path.specs.declared.order.Reply.{Reply}
use Rattle.path.specs.declared.order.Reply.TheVariants.{Started, Refused, Landed, NothingWaits}

abbrev pub start_reply : Result (Unit {0}) Refusal → Reply
start_reply (Ok _) = Started
start_reply (Err e) = Refused e

abbrev pub land_reply : Option Carry → Reply
land_reply None = NothingWaits
land_reply (Some x) = Landed x

abbrev pub LandReply : List (List Carry) → Reply → List (List Carry) → Type 0
LandReply ls (Landed x) ls' = lines.Landed ls (Some x) ls'
LandReply ls NothingWaits ls' = lines.Landed ls None ls'
LandReply ls Started ls' = ⊥
LandReply ls (Refused e) ls' = ⊥

-- from lines ls one order, answered so, leads to lines ls'
abbrev pub Takes : ℕ → List (List Carry) → Order → Reply → List (List Carry) → Type 0
Takes n ls (Start x) r ls' = (r ≡ start_reply (start_at n ls x)) × (ls' ≡ started n ls x)
Takes n ls Land r ls' = LandReply ls r ls'

-- from lines ls the orders, each answered so, lead to lines ls'
pub data Run (n : ℕ) : List (List Carry) → List Order → List Reply → List (List Carry) → Type 0 where
  end : {ls : List (List Carry)} → Run n ls [] [] ls
  then : {ls ls₁ ls' : List (List Carry)} {o : Order} {os : List Order} {r : Reply} {rs : List Reply} → Takes n ls o r ls₁ → Run n ls₁ os rs ls' → Run n ls (o ∷ os) (r ∷ rs) ls'

abbrev pub accepted_by : Order → Reply → List Carry
accepted_by (Start x) Started = x ∷ []
accepted_by (Start x) (Refused e) = []
accepted_by (Start x) (Landed y) = []
accepted_by (Start x) NothingWaits = []
accepted_by Land r = []

-- the carries that were started, in order
abbrev pub accepted : List Order → List Reply → List Carry
accepted [] rs = []
accepted (o ∷ os) [] = []
accepted (o ∷ os) (r ∷ rs) = accepted_by o r ++ accepted os rs

abbrev pub landed_by : Reply → List Carry
landed_by (Landed x) = x ∷ []
landed_by NothingWaits = []
landed_by Started = []
landed_by (Refused e) = []

-- the carries that were landed, in order
abbrev pub landed : List Reply → List Carry
landed [] = []
landed (r ∷ rs) = landed_by r ++ landed rs

-- In a lane nothing is lost and nothing overtakes: what waited before and then what was started is, in this order, what
-- was landed and then what waits after.
abbrev pub InOrder : List (List Carry) → List Order → List Reply → List (List Carry) → Type 0
InOrder ls os rs ls' = (b c : ℕ) → lane ls b c ++ filter (of_lane b c) (accepted os rs) ≡ filter (of_lane b c) (landed rs) ++ lane ls' b c

-- A run that was not refused: each order was answered in its own place, the places past the orders are as they were, and
-- every lane kept its order.
pub record Ran (n : ℕ) (ls : List (List Carry)) (os : List Order) (old new : List Reply) (ls' : List (List Carry)) : Type 0 where
  pub run : Run n ls os (take (length os) new) ls'
  pub rest : drop (length os) new ≡ drop (length os) old
  pub lanes : InOrder ls os (take (length os) new) ls'

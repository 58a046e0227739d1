-- A history keeps to ownership exactly if each of its events was allowed in its turn.
use Rattle.std.specs.Prelude.{◌≡◌, ◌↔◌, List, [], Ok}
use Rattle.model.specs.declared.event.Event.{Event}
use Rattle.order.specs.Order.{more, Disciplined}
use Rattle.order.specs.Test.{owner_of}
use Rattle.judge.specs.Judging.{allowed}

unfoldable pub DisciplineDecided : Type 0
DisciplineDecided = Disciplined [] × ((h : List Event) (e : Event) → Disciplined (more h e) ↔ (Disciplined h × (allowed (owner_of h e.cell) e.board e.action ≡ Ok tt)))

-- What a judge at one bench goes by.
use Rattle.std.specs.Prelude.{ℕ, List}
use Rattle.model.specs.declared.event.Event.{Event}

-- the events noted so far, how many boards the bench has, and the words that its cells started with
pub record Heard : Type 0 where
  pub history : List Event
  pub boards : ℕ
  pub words : List ℕ

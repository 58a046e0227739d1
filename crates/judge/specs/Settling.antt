-- What part of a history settles what a board knows of a cell's writes.
use Rattle.std.specs.Prelude.{◌≡◌, ℕ, ◌+◌, ◌<◌, List, length, take, Some, None, Option}
use Rattle.model.specs.declared.event.Event.{Event}
use Rattle.order.specs.Test.{blank, view_of, views}

-- up to the event at that place
pub record SettledAt (h : List Event) (b c i : ℕ) : Type 0 where
  pub within : i < length h
  pub same : view_of (views c h) b ≡ view_of (views c (take (i + 1) h)) b

-- none: nothing is known
abbrev pub Settled : List Event → (b c : ℕ) → Option ℕ → Type 0
Settled h b c None = view_of (views c h) b ≡ blank
Settled h b c (Some i) = SettledAt h b c i

-- A bench by the state that it stands for, and which answers are refusals.
use Rattle.std.specs.Prelude.{ℕ, Bool, true, false, List}
use Rattle.model.specs.declared.answer.Answer.{Answer}
use Rattle.model.specs.declared.carry.Carry.{Carry}
use Rattle.cache.specs.Caches.{tables}
use Rattle.state.specs.States.{State}
use Rattle.engine.specs.declared.bench.Bench.TheInside.{Inside}

-- by what the home and the path mean, and the length of the path's lines
abbrev pub state_of : {H P : Type 0} → (H → List ℕ) → (P → List (List Carry)) → ℕ → Inside H P → State
state_of words lines n b =
    record {
      refusal = b.refusal;
      boards = b.boards;
      entries = b.entries;
      long = n;
      caches = tables b.caches;
      owners = b.owners.of;
      words = words b.home;
      lines = lines b.path;
    }

abbrev pub is_refused : Answer → Bool
is_refused (Answer.Word w) = false
is_refused Answer.Done = false
is_refused (Answer.Landed x) = false
is_refused Answer.NothingWaits = false
is_refused (Answer.Refused e) = true

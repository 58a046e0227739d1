-- A bench is sound by its make.
use Rattle.std.proofs.Common.{◌≡◌, ℕ, ◌≤◌, List, refl, subst}
use Rattle.model.specs.declared.carry.Carry.{Carry}
use Rattle.carries.specs.Lines.{Proper}
use Rattle.cache.specs.declared.cache.Cache.{Cache}
use Rattle.cache.specs.Caches.{table_of}
use Rattle.state.specs.Sound.{IsCache, Sound}
use Rattle.engine.specs.declared.bench.Bench.TheInside.{Inside}
use Rattle.engine.specs.Benches.{state_of}
use Rattle.engine.specs.Seen.{Seen, IsWhole}

is-cache : (c : Cache) → IsCache (table_of c)
is-cache c = (c.eight, c.distinct)

module _ {H P : Type 0} (words : H → List ℕ) (lines : P → List (List Carry)) (n : ℕ) where
  sound : (b : Inside H P) → (b.boards ≤ 8) × (b.entries ≤ 8) → Proper n (lines b.path) → Sound (state_of words lines n b)
  sound b few proper =
      record {
        boards = few.0;
        entries = few.1;
        caches = refl;
        places = (is-cache b.caches.c0, (is-cache b.caches.c1, (is-cache b.caches.c2, (is-cache b.caches.c3, (is-cache b.caches.c4, (is-cache b.caches.c5, (is-cache b.caches.c6, (is-cache b.caches.c7, tt))))))));
        owners = b.owners.cells;
        lines = proper;
      }

  -- b is the fields of a bench that is seen as v
  pub whole : (b : Inside H P) {v : Seen H P} → ◌≡◌ {A = Seen H P} (record { state = state_of words lines n b; home = b.home; path = b.path }) v → (b.boards ≤ 8) × (b.entries ≤ 8) → Proper n (lines b.path) → IsWhole words lines n v
  whole b is few proper = subst (IsWhole words lines n) is (record { words = refl; lines = refl; long = refl; sound = sound b few proper })

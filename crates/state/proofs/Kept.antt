-- What every step keeps: a sound bench stays sound, and its sizes stay.
use Rattle.std.proofs.Common.{◌≡◌, ℕ, ◌<◌, ltb, List, [], length, set, Option, sym, refl, ap, ◌∙◌, subst, arith}
use Rattle.std.proofs.ByRecursion.{All-get_or, All-set}
use Rattle.std.proofs.lemmas.List.{length-set}
use Rattle.std.proofs.lemmas.Bool.{cond_both}
use Rattle.model.specs.declared.answer.Answer.{Answer}
use Rattle.model.specs.declared.carry.Carry.{Carry}
use Rattle.model.specs.declared.entry.Entry.{Entry}
use Rattle.model.specs.declared.step.Step.{Step}
use Rattle.home.specs.Words.{written}
use Rattle.carries.specs.Lines.{started, Proper}
use Rattle.state.specs.Laws.{SoundKept, SameSizes, SizesKept}
use Rattle.state.specs.Sound.{IsCache, Sound}
use Rattle.state.specs.States.{State, cache_of, with_caches, with_owner, with_lines}
use Rattle.state.specs.Steps.{carry_of, landed}
use Rattle.state.proofs.Flights.{proper-started, proper-unloaded}
use Rattle.state.proofs.Stores.{entered}
use Rattle.state.proofs.Ways.{On, Puts, stays, stores, Sends, quietly, carrying, Way, refusing, reading, writing, acquiring, releasing, writing_back, ejecting, landing, idling, way}

pub cache-of : (s : State) (b : ℕ) → b < 8 → Sound s → IsCache (cache_of s b)
cache-of s b h k = All-get_or IsCache s.caches b [] (omega (arith, k.caches)) k.places

pub board-in : (s : State) (b c : ℕ) → On s b c → Sound s → b < 8
board-in s b c on k = omega (arith, on.board, k.boards)

-- an entry put changes the caches alone
pub only-caches : {s t : State} {b c : ℕ} {e : Entry} → Puts s b c e t → t ≡ with_caches s t.caches
only-caches (stays p) = refl
only-caches (stores i ps p) = refl

-- sound benches stay sound

pub sound-puts : {s t : State} {b c : ℕ} {e : Entry} → b < 8 → Puts s b c e t → Sound s → Sound t
sound-puts h (stays p) k = k
sound-puts {s = s} {b = b} {c = c} {e = e} h (stores i ps p) k =
    let old = cache-of s b h k in
    let new = entered (cache_of s b) ps c i e old.1 p in
    record {
      boards = k.boards;
      entries = k.entries;
      caches = length-set s.caches b ps ∙ k.caches;
      places = All-set IsCache s.caches b ps (new.long ∙ old.0, new.distinct) k.places;
      owners = k.owners;
      lines = k.lines;
    }

sound-lines : (s : State) (ls : List (List Carry)) → Proper s.long ls → Sound s → Sound (with_lines s ls)
sound-lines s ls p k = record { boards = k.boards; entries = k.entries; caches = k.caches; places = k.places; owners = k.owners; lines = p }

sound-owner : (s : State) (c : ℕ) (o : Option ℕ) → Sound s → Sound (with_owner s c o)
sound-owner s c o k = record { boards = k.boards; entries = k.entries; caches = k.caches; places = k.places; owners = length-set s.owners c o ∙ k.owners; lines = k.lines }

sound-sends : {s : State} {b c : ℕ} {e : Entry} {ws : List ℕ} {t : State} → b < 8 → Sends s b c e ws t → Sound s → Sound t
sound-sends h (quietly puts) k = sound-puts h puts k
sound-sends {s = s} {b = b} {c = c} h (carrying {t = t} w u p puts) k =
    let x = carry_of b c w in
    let ls = started s.long s.lines x in
    sound-lines t ls (subst (λ n. Proper n ls) (sym (ap (λ y. y.long) (only-caches puts))) (proper-started s.long s.lines x u p k.lines)) (sound-puts h puts k)

sound-landed : (s : State) (x : Carry) → Sound s → Sound (landed s x)
sound-landed s x k = record { boards = k.boards; entries = k.entries; caches = k.caches; places = k.places; owners = k.owners; lines = proper-unloaded s.long s.lines x k.lines }

sound-way : {s t : State} {call : Step} {a : Answer} → Way s call a t → Sound s → Sound t
sound-way (refusing r barred) k = k
sound-way {s = s} (reading {b = b} {c = c} on guard puts) k = sound-puts (board-in s b c on k) puts k
sound-way {s = s} (writing {b = b} {c = c} on puts) k = sound-puts (board-in s b c on k) puts k
sound-way {s = s} (acquiring {b = b} {c = c} {t = t} on guard puts) k = sound-owner t c _ (sound-puts (board-in s b c on k) puts k)
sound-way {s = s} (releasing {b = b} {c = c} on guard) k = sound-owner s c _ k
sound-way {s = s} (writing_back {b = b} {c = c} on guard sends) k = sound-sends (board-in s b c on k) sends k
sound-way {s = s} (ejecting {b = b} {c = c} on guard sends) k = sound-sends (board-in s b c on k) sends k
sound-way {s = s} (landing {x = x} first) k = sound-landed s x k
sound-way idling k = k

pub sound-kept : SoundKept
sound-kept s t call a takes k = sound-way (way s t call a takes) k

-- sizes stay

same-sizes : (s : State) → SameSizes s s
same-sizes s = record { refusal = refl; boards = refl; entries = refl; long = refl; cells = refl }

sizes-puts : {s t : State} {b c : ℕ} {e : Entry} → Puts s b c e t → SameSizes s t
sizes-puts {s = s} {t = t} puts = subst (SameSizes s) (sym (only-caches puts)) (record { refusal = refl; boards = refl; entries = refl; long = refl; cells = refl })

sizes-sends : {s : State} {b c : ℕ} {e : Entry} {ws : List ℕ} {t : State} → Sends s b c e ws t → SameSizes s t
sizes-sends (quietly puts) = sizes-puts puts
sizes-sends (carrying w u p puts) = let k = sizes-puts puts in record { refusal = k.refusal; boards = k.boards; entries = k.entries; long = k.long; cells = k.cells }

sizes-owner : {s : State} (t : State) (c : ℕ) (o : Option ℕ) → SameSizes s t → SameSizes s (with_owner t c o)
sizes-owner t c o k = record { refusal = k.refusal; boards = k.boards; entries = k.entries; long = k.long; cells = k.cells }

pub length-written : (ws : List ℕ) (c w : ℕ) → length (written ws c w) ≡ length ws
length-written ws c w = cond_both (ltb c (length ws)) (set ws c w) ws (λ l. length l ≡ length ws) (λ _. length-set ws c w) (λ _. refl)

sizes-way : {s t : State} {call : Step} {a : Answer} → Way s call a t → SameSizes s t
sizes-way {s = s} (refusing r barred) = same-sizes s
sizes-way (reading on guard puts) = sizes-puts puts
sizes-way (writing on puts) = sizes-puts puts
sizes-way (acquiring {c = c} {t = t} on guard puts) = sizes-owner t c _ (sizes-puts puts)
sizes-way {s = s} (releasing {c = c} on guard) = sizes-owner s c _ (same-sizes s)
sizes-way (writing_back on guard sends) = sizes-sends sends
sizes-way (ejecting on guard sends) = sizes-sends sends
sizes-way {s = s} (landing {x = x} first) = record { refusal = refl; boards = refl; entries = refl; long = refl; cells = length-written s.words x.cell x.word }
sizes-way {s = s} idling = same-sizes s

pub sizes-kept : SizesKept
sizes-kept s t call a takes = sizes-way (way s t call a takes)

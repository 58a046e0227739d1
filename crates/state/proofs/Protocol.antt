-- At each cell, each way through a step is the protocol's move.
use Rattle.std.proofs.Common.{◌≡◌, ℕ, ◌<◌, Bool, true, false, cond, eqb, ltb, ◌≢◌, List, [], ◌∷◌, ◌++◌, length, get_or, set, Some, None, Option, sym, refl, ap, ◌∙◌, subst, ⊎_elim, arith}
use Rattle.std.proofs.lemmas.List.{append-nil, map-append, get_or-set_same, get_or-set_other}
use Rattle.std.proofs.lemmas.Bool.{cases_eq, cond_both, cond-true, lt-ltb, eqb-true, eqb-false}
use Rattle.model.specs.declared.answer.Answer.{Answer}
use Rattle.model.specs.declared.carry.Carry.{Carry}
use Rattle.model.specs.declared.entry.Entry.{Entry}
use Rattle.model.specs.declared.refusal.Refusal.{Refusal}
use Rattle.model.specs.declared.step.Step.{Step}
use Rattle.home.specs.Words.{written}
use Rattle.carries.specs.Lines.{lane, oldest}
use Rattle.cache.specs.declared.place.Place.{Place}
use Rattle.cache.specs.Places.{entry_in}
use Rattle.protocol.specs.Machine.{Cell, Becomes, Same, Move, Moves, reads, writes, acquires, releases, writes_back, completes, ejects, rests, later}
use Rattle.state.specs.Cells.{words_of, project, on_cell, move_at, Follows}
use Rattle.state.specs.Laws.{FollowsProtocol}
use Rattle.state.specs.Sound.{Sound}
use Rattle.state.specs.States.{State, cache_of, owner_of, word_of, with_owner}
use Rattle.state.specs.Steps.{carry_of, landed}
use Rattle.path.proofs.Lanes.{other-board, other-cell}
use Rattle.state.proofs.Flights.{lane-joined, lane-as-it-was, lane-left, lane-untouched}
use Rattle.state.proofs.Kept.{cache-of, board-in, sound-puts}
use Rattle.state.proofs.Stores.{entered}
use Rattle.state.proofs.Ways.{Puts, stays, stores, Sends, quietly, carrying, Way, refusing, reading, writing, acquiring, releasing, writing_back, ejecting, landing, idling, way}

same : (x : Cell) → Same x x
same x = record { entry = λ p. refl; flight = λ p. refl; owner = refl; memory = refl }

-- at cell c board b's entry and flight, the owner and the memory are as given, and no other board's have changed; at
-- no other cell has anything changed
pub record Turned (s t : State) (b c : ℕ) (e : Entry) (ws : List ℕ) (o : Option ℕ) (m : ℕ) : Type 0 where
  pub here : c < length s.words → Becomes (project c s) (project c t) b e ws o m
  pub there : (d : ℕ) → d ≢ c → Same (project d s) (project d t)

-- what each board has of a cell where the cache of board b is another
module _ (xs : List (List Place)) (b : ℕ) (ps : List Place) (d : ℕ) where
  entry-own : b < length xs → entry_in (get_or (set xs b ps) b []) d ≡ entry_in ps d
  entry-own h = ap (λ l. entry_in l d) (get_or-set_same xs b ps [] h)

  entry_other : (p : ℕ) → p ≢ b → entry_in (get_or (set xs b ps) p []) d ≡ entry_in (get_or xs p []) d
  entry_other p ne = ap (λ l. entry_in l d) (get_or-set_other xs b p ps [] ne)

  entry-each : b < length xs → entry_in ps d ≡ entry_in (get_or xs b []) d → (p : ℕ) → entry_in (get_or (set xs b ps) p []) d ≡ entry_in (get_or xs p []) d
  entry-each h e p =
      ⊎_elim
      (λ (q : p ≡ b). subst (λ k. entry_in (get_or (set xs b ps) k []) d ≡ entry_in (get_or xs k []) d) (sym q) (entry-own h ∙ e))
      (λ (ne : p ≡ b → ⊥). entry_other p ne)
      (cases_eq p b)

pub turned-puts : {s t : State} {b c : ℕ} {e : Entry} → b < 8 → Puts s b c e t → Sound s → Turned s t b c e ((project c s).flight b) (owner_of s c) (word_of s c)
turned-puts {s = s} h (stays p) k =
    record {
      here = λ _. record { own_entry = p; own_flight = refl; other_entries = λ q ne. refl; other_flights = λ q ne. refl; owner = refl; memory = refl };
      there = λ d ne. same (project d s);
    }
turned-puts {s = s} {b = b} {c = c} {e = e} h (stores i ps p) k =
    let in' : b < length s.caches = omega (arith, k.caches) in
    let new = entered (cache_of s b) ps c i e (cache-of s b h k).1 p in
    record {
      here = λ _.
          record {
            own_entry = entry-own s.caches b ps c in' ∙ new.here;
            own_flight = refl;
            other_entries = entry_other s.caches b ps c;
            other_flights = λ q ne. refl;
            owner = refl;
            memory = refl;
          };
      there = λ d ne. record { entry = entry-each s.caches b ps d in' (new.there d ne); flight = λ q. refl; owner = refl; memory = refl };
    }

turned-sends : {s : State} {b c : ℕ} {e : Entry} {ws : List ℕ} {t : State} → b < 8 → Sends s b c e ws t → Sound s → Turned s t b c e ((project c s).flight b ++ ws) (owner_of s c) (word_of s c)
turned-sends {s = s} {b = b} {c = c} {e = e} {t = t} h (quietly puts) k =
    subst (λ ws. Turned s t b c e ws (owner_of s c) (word_of s c)) (sym (append-nil ((project c s).flight b))) (turned-puts h puts k)
turned-sends {s = s} {b = b} {c = c} h (carrying w u p puts) k =
    let put = turned-puts h puts k in
    let x = carry_of b c w in
    let eight = k.lines.eight in
    record {
      here = λ in'.
          let was = put.here in' in
          record {
            own_entry = was.own_entry;
            own_flight = ap words_of (lane-joined s.long s.lines x u eight p) ∙ map-append (λ y. y.word) (lane s.lines b c) (x ∷ []);
            other_entries = was.other_entries;
            other_flights = λ q ne. ap words_of (lane-as-it-was s.long s.lines x u eight p q c (other-board q c x ne));
            owner = was.owner;
            memory = was.memory;
          };
      there = λ d ne.
          let was = put.there d ne in
          record {
            entry = was.entry;
            flight = λ q. ap words_of (lane-as-it-was s.long s.lines x u eight p q d (other-cell q d x ne));
            owner = was.owner;
            memory = was.memory;
          };
    }

turned-owner : {s : State} (t : State) {b c : ℕ} {e : Entry} {ws : List ℕ} {o : Option ℕ} {m : ℕ} (new : Option ℕ) → c < length t.owners → Turned s t b c e ws o m → Turned s (with_owner t c new) b c e ws new m
turned-owner t {c = c} new h turned =
    record {
      here = λ in'.
          let was = turned.here in' in
          record {
            own_entry = was.own_entry;
            own_flight = was.own_flight;
            other_entries = was.other_entries;
            other_flights = was.other_flights;
            owner = get_or-set_same t.owners c new None h;
            memory = was.memory;
          };
      there = λ d ne. let was = turned.there d ne in record { entry = was.entry; flight = was.flight; owner = get_or-set_other t.owners c d new None ne ∙ was.owner; memory = was.memory };
    }

pub word-here : (ws : List ℕ) (c w : ℕ) → c < length ws → get_or (written ws c w) c 0 ≡ w
word-here ws c w h = ap (λ l. get_or l c 0) (cond-true (ltb c (length ws)) (set ws c w) ws (lt-ltb c (length ws) h)) ∙ get_or-set_same ws c w 0 h

pub word-there : (ws : List ℕ) (c w d : ℕ) → d ≢ c → get_or (written ws c w) d 0 ≡ get_or ws d 0
word-there ws c w d ne = cond_both (ltb c (length ws)) (set ws c w) ws (λ l. get_or l d 0 ≡ get_or ws d 0) (λ _. get_or-set_other ws c d w 0 ne) (λ _. refl)

turned-landed : (s : State) (x : Carry) → oldest (lane s.lines x.board x.cell) ≡ Some x → Sound s
    → Turned s (landed s x) x.board x.cell ((project x.cell s).entry x.board) (later ((project x.cell s).flight x.board)) (owner_of s x.cell) x.word
turned-landed s x first k =
    let eight = k.lines.eight in
    let c = x.cell in
    record {
      here = λ in'.
          record {
            own_entry = refl;
            own_flight = sym (ap (λ l. later (words_of l)) (lane-left s.lines x eight first));
            other_entries = λ q ne. refl;
            other_flights = λ q ne. ap words_of (lane-untouched s.lines x eight first q c (other-board q c x ne));
            owner = refl;
            memory = word-here s.words c x.word in';
          };
      there = λ d ne.
          record {
            entry = λ q. refl;
            flight = λ q. ap words_of (lane-untouched s.lines x eight first q d (other-cell q d x ne));
            owner = refl;
            memory = word-there s.words c x.word d ne;
          };
    }

-- a move at cell c, and nothing at any other
module _ (s t : State) (c : ℕ) (m : Move) where
  moves_each : (c < length s.words → Moves m (project c s) (project c t)) → ((d : ℕ) → d ≢ c → Same (project d s) (project d t)) → (d : ℕ) → d < length s.words → Moves (on_cell d c m) (project d s) (project d t)
  moves_each here there d h =
      cond_both (eqb c d) m rests (λ n. Moves n (project d s) (project d t))
      (λ e.
      let is = eqb-true c d e in
      subst (λ k. Moves m (project k s) (project k t)) is (here (omega arith)))
      (λ e. record { guard = tt; effect = there d (λ q. eqb-false c d e (sym q)) })

-- a refused step is no move
no_move : (q : Bool) → cond q rests rests ≡ rests
no_move true = refl
no_move false = refl

refused-rests : (c : ℕ) (call : Step) (r : Refusal) → move_at c call (Answer.Refused r) ≡ rests
refused-rests c (Step.Read b d) r = no_move (eqb d c)
refused-rests c (Step.Write b d w) r = no_move (eqb d c)
refused-rests c (Step.Acquire b d) r = no_move (eqb d c)
refused-rests c (Step.Release b d) r = no_move (eqb d c)
refused-rests c (Step.WriteBack b d) r = no_move (eqb d c)
refused-rests c (Step.Eject b d) r = no_move (eqb d c)
refused-rests c Step.Land r = refl

follows-way : {s t : State} {call : Step} {a : Answer} → Way s call a t → Sound s → Follows s call a t
follows-way {s = s} {call = call} (refusing r barred) k = λ c h. subst (λ m. Moves m (project c s) (project c s)) (sym (refused-rests c call r)) (record { guard = tt; effect = same (project c s) })
follows-way {s = s} {t = t} (reading {b = b} {c = c} {w = w} on guard puts) k =
    let turned = turned-puts (board-in s b c on k) puts k in
    moves_each s t c (reads b w) (λ h. record { guard = guard; effect = turned.here h }) turned.there
follows-way {s = s} {t = t} (writing {b = b} {c = c} {w = w} on puts) k =
    let turned = turned-puts (board-in s b c on k) puts k in
    moves_each s t c (writes b w) (λ h. record { guard = tt; effect = turned.here h }) turned.there
follows-way {s = s} (acquiring {b = b} {c = c} {t = t} on guard puts) k =
    let in' = board-in s b c on k in
    let turned = turned-owner t (Some b) (omega (arith, on.cell, (sound-puts in' puts k).owners)) (turned-puts in' puts k) in
    moves_each s (with_owner t c (Some b)) c (acquires b) (λ h. record { guard = guard; effect = turned.here h }) turned.there
follows-way {s = s} (releasing {b = b} {c = c} on guard) k =
    let turned = turned-owner s None (omega (arith, on.cell, k.owners)) (turned-puts (board-in s b c on k) (stays refl) k) in
    moves_each s (with_owner s c None) c (releases b) (λ h. record { guard = guard; effect = turned.here h }) turned.there
follows-way {s = s} {t = t} (writing_back {b = b} {c = c} on guard sends) k =
    let turned = turned-sends (board-in s b c on k) sends k in
    moves_each s t c (writes_back b) (λ h. record { guard = guard; effect = turned.here h }) turned.there
follows-way {s = s} {t = t} (ejecting {b = b} {c = c} on guard sends) k =
    let turned = turned-sends (board-in s b c on k) sends k in
    moves_each s t c (ejects b) (λ h. record { guard = guard; effect = turned.here h }) turned.there
follows-way {s = s} (landing {x = x} first) k =
    let turned = turned-landed s x first k in
    let left = lane-left s.lines x k.lines.eight first in
    moves_each s (landed s x) x.cell (completes x.board x.word) (λ h. record { guard = (_, ap words_of left); effect = turned.here h }) turned.there
follows-way {s = s} idling k = λ c h. record { guard = tt; effect = same (project c s) }

pub follows : FollowsProtocol
follows s t call a takes k = follows-way (way s t call a takes) k

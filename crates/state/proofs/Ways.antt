-- The ways through a step: whatever the choice, it is refused and leaves the state, or it is one of the protocol's moves
-- with the move's guard, and what it does to the state is one of a few things.
use Rattle.std.proofs.Common.{◌≡◌, ℕ, ◌<◌, ◌≤◌, Bool, true, false, cond, eqb, ltb, List, [], ◌∷◌, length, is_some, Some, None, Ok, Err, Option, Result, sym, refl, ap, ◌∙◌, subst, inl, inr, ⊎_elim, arith}
use Rattle.std.proofs.lemmas.Bool.{false≢true, both_ways, cond_both, cond-false, or_parts, or_cases, eqb-true, eq-eqb, ltb-true, ltb-false, le-ltb}
use Rattle.std.specs.List.{last_or}
use Rattle.model.specs.declared.answer.Answer.{Answer}
use Rattle.model.specs.declared.carry.Carry.{Carry}
use Rattle.model.specs.declared.entry.Entry.{Entry}
use Rattle.model.specs.declared.refusal.Refusal.{Refusal}
use Rattle.model.specs.declared.step.Step.{Step}
use Rattle.carries.specs.Lines.{line, lane, oldest, newest, start_at, started}
use Rattle.cache.specs.declared.place.Place.{Place}
use Rattle.cache.specs.Places.{place_for, replace_in, taken_in, store_in}
use Rattle.protocol.specs.Machine.{Guard, reads, acquires, releases, writes_back, ejects, read_word, after_read, after_acquire, cleaned, sent}
use Rattle.protocol.specs.Machine as machine
use Rattle.state.specs.Cells.{words_of, project}
use Rattle.state.specs.Laws.{RefusedKeeps, RefusedRightly, NoBoardsRefuse}
use Rattle.state.specs.Opening.{quiet}
use Rattle.state.specs.Reasons.{board_of, cell_of, Limit, no_board, no_cell, no_entry, no_room, Barred}
use Rattle.state.specs.Sound.{Sound}
use Rattle.state.specs.States.{State, cells_of, cache_of, owner_of, word_of, with_cache, with_owner, with_lines, with_entry}
use Rattle.state.specs.Steps.{Choice, Outcome, refuse, done, checked, kept, new_entry, carried, fetched, read, write, acquire_free, acquire, is_dirty, unsettled, is_owner, release, carry_of, send, write_back, eject, landed, land, step, Takes}
use Rattle.state.specs.Steps as bench
use Rattle.state.proofs.Flights.{heads-own, line-full}
use Rattle.state.proofs.Stores.{replaces}

-- the bench has that board and that cell
pub record On (s : State) (b c : ℕ) : Type 0 where
  pub board : b < s.boards
  pub cell : c < cells_of s

-- the board's entry of the cell becomes e: it is that already, or it is stored
pub data Puts (s : State) (b c : ℕ) (e : Entry) : State → Type 0 where
  stays : (project c s).entry b ≡ e → Puts s b c e s
  stores : (i : ℕ) (ps : List Place) → store_in i (cache_of s b) c e ≡ Some ps → Puts s b c e (with_cache s b ps)

-- the same, and the word, if there is one, is sent
pub data Sends (s : State) (b c : ℕ) (e : Entry) : List ℕ → State → Type 0 where
  quietly : {t : State} → Puts s b c e t → Sends s b c e [] t
  carrying : {t : State} (w : ℕ) (u : Unit {0}) → start_at s.long s.lines (carry_of b c w) ≡ Ok u → Puts s b c e t → Sends s b c e (w ∷ []) (with_lines t (started s.long s.lines (carry_of b c w)))

pub data Way (s : State) : Step → Answer → State → Type 0 where
  refusing : {call : Step} (r : Refusal) → (Sound s → Barred s call r) → Way s call (Answer.Refused r) s
  reading : {b c w : ℕ} {t : State} → On s b c → Guard (reads b w) (project c s) → Puts s b c (after_read ((project c s).entry b) w) t → Way s (Step.Read b c) (Answer.Word w) t
  writing : {b c w : ℕ} {t : State} → On s b c → Puts s b c (Entry.Dirty w) t → Way s (Step.Write b c w) Answer.Done t
  acquiring : {b c : ℕ} {t : State} → On s b c → Guard (acquires b) (project c s) → Puts s b c (after_acquire ((project c s).entry b)) t → Way s (Step.Acquire b c) Answer.Done (with_owner t c (Some b))
  releasing : {b c : ℕ} → On s b c → Guard (releases b) (project c s) → Way s (Step.Release b c) Answer.Done (with_owner s c None)
  writing_back : {b c : ℕ} {t : State} → On s b c → Guard (writes_back b) (project c s) → Sends s b c (cleaned ((project c s).entry b)) (sent ((project c s).entry b)) t → Way s (Step.WriteBack b c) Answer.Done t
  ejecting : {b c : ℕ} {t : State} → On s b c → Guard (ejects b) (project c s) → Sends s b c Entry.Invalid (sent ((project c s).entry b)) t → Way s (Step.Eject b c) Answer.Done t
  landing : {x : Carry} → oldest (lane s.lines x.board x.cell) ≡ Some x → Way s Step.Land (Answer.Landed x) (landed s x)
  idling : Way s Step.Land Answer.NothingWaits s

-- an outcome, if there is one, is such
abbrev Meets : (Answer → State → Type 0) → Outcome → Type 0
Meets P None = Unit {0}
Meets P (Some o) = P o.0 o.1

-- what the tests of a step show

last_some : {X : Type 0} (x : X) (xs : List X) → is_some (last_or (Some x) xs) ≡ true
last_some x [] = refl
last_some x (y ∷ ys) = last_some y ys

none-newest : (xs : List Carry) → is_some (newest xs) ≡ false → xs ≡ []
none-newest [] e = refl
none-newest (x ∷ xs) e = absurd (both_ways (is_some (last_or (Some x) xs)) e (last_some x xs))

owner-is : (o : Option ℕ) (b : ℕ) → is_owner o b ≡ true → o ≡ Some b
owner-is (Some p) b h = ap Some (eqb-true p b h)
owner-is None b h = absurd (both_ways false refl h)

nothing-sent : (e : Entry) → is_dirty e ≡ false → sent e ≡ []
nothing-sent Entry.Invalid h = refl
nothing-sent (Entry.Clean w) h = refl
nothing-sent (Entry.Dirty w) h = absurd (both_ways true h refl)

not-owner : {b : ℕ} (o : Option ℕ) → is_owner o b ≡ false → o ≡ Some b → ⊥
not-owner {b = b} o other e = both_ways (is_owner o b) other (ap (λ x. is_owner x b) e ∙ eq-eqb b b refl)

something-sent : (e : Entry) → is_dirty e ≡ true → sent e ≡ [] → ⊥
something-sent Entry.Invalid h = absurd (both_ways false refl h)
something-sent (Entry.Clean w) h = absurd (both_ways false refl h)
something-sent (Entry.Dirty w) h = λ e. let z : ◌≡◌ {A = ℕ} 0 1 = cc in omega arith

something-newest : (xs : List Carry) → is_some (newest xs) ≡ true → words_of xs ≡ [] → ⊥
something-newest [] h = absurd (both_ways false refl h)
something-newest (x ∷ xs) h = λ e. let z : ◌≡◌ {A = ℕ} 0 1 = cc in omega arith

-- the word that a read fetches is the newest in flight, or else the memory's
newest-word : (xs : List Carry) (o : Option Carry) (m : ℕ) → carried (last_or o xs) m ≡ machine.newest (words_of xs) (carried o m)
newest-word [] o m = refl
newest-word (x ∷ xs) o m = newest-word xs (Some x) m

pub clean-valid : {e : Entry} (w : ℕ) → e ≡ Entry.Clean w → e ≡ Entry.Invalid → ⊥
clean-valid w p q = let z : ◌≡◌ {A = ℕ} 0 1 = cc in omega arith

pub dirty-valid : {e : Entry} (w : ℕ) → e ≡ Entry.Dirty w → e ≡ Entry.Invalid → ⊥
dirty-valid w p q = let z : ◌≡◌ {A = ℕ} 0 1 = cc in omega arith

clean-dirty : {e : Entry} (w v : ℕ) → e ≡ Entry.Clean w → e ≡ Entry.Dirty v → ⊥
clean-dirty w v p q = let z : ◌≡◌ {A = ℕ} 0 1 = cc in omega arith

-- a step of board b on cell c
module _ (s : State) (b c : ℕ) where
  abbrev entry : Entry
  entry = (project c s).entry b

  checked-way : (call : Step) (o : Outcome) → board_of call ≡ b → cell_of call ≡ c → (On s b c → Meets (Way s call) o) → Meets (Way s call) (checked s b c o)
  checked-way call o board cell go =
      cond_both (ltb b s.boards) (cond (ltb c (cells_of s)) o (refuse Refusal.NoSuchCell s)) (refuse Refusal.NoSuchBoard s) (Meets (Way s call))
      (λ p.
      cond_both (ltb c (cells_of s)) o (refuse Refusal.NoSuchCell s) (Meets (Way s call))
      (λ q. go (record { board = ltb-true b s.boards p; cell = ltb-true c (cells_of s) q }))
      (λ q. refusing Refusal.NoSuchCell (λ _. inl (no_cell (omega (arith, ltb-false c (cells_of s) q))))))
      (λ p. refusing Refusal.NoSuchBoard (λ _. inl (no_board (omega (arith, ltb-false b s.boards p)))))

  new-way : (k : Choice) (call : Step) (a : Answer) (e : Entry) → (s.entries ≤ taken_in (cache_of s b) → Limit s call Refusal.CacheFull) → ((t : State) → Puts s b c e t → Way s call a t) → Meets (Way s call) (new_entry k s b c a e)
  new-way k call a e full go =
      cond_both (ltb (taken_in (cache_of s b)) s.entries) (kept s b a (store_in k.place (cache_of s b) c e)) (refuse Refusal.CacheFull s) (Meets (Way s call))
      (λ _. by (store_in k.place (cache_of s b) c e) refl)
      (λ p. refusing Refusal.CacheFull (λ _. inl (full (ltb-false (taken_in (cache_of s b)) s.entries p))))
    where
      by : (o : Option (List Place)) → store_in k.place (cache_of s b) c e ≡ o → Meets (Way s call) (kept s b a o)
      by (Some ps) p = go (with_cache s b ps) (stores k.place ps p)
      by None p = tt

  pub replaced : (e : Entry) → (entry ≡ Entry.Invalid → ⊥) → Puts s b c e (with_entry s b c e)
  replaced e valid = stores 0 (replace_in (cache_of s b) c (place_for c e)) (replaces (cache_of s b) c e valid)

  send-way : (call : Step) (w : ℕ) (e : Entry) → On s b c → (s.long ≤ length (line s.lines b) → Limit s call Refusal.LineFull) → entry ≡ Entry.Dirty w
      → ((t : State) → Sends s b c e (sent entry) t → Way s call Answer.Done t) → Meets (Way s call) (send s b c w e)
  send-way call w e on full dirty go = by (start_at s.long s.lines (carry_of b c w)) refl
    where
      by : (r : Result (Unit {0}) Refusal) → start_at s.long s.lines (carry_of b c w) ≡ r → Meets (Way s call) (bench.sent r s b c w e)
      by (Ok u) p =
          let after = with_lines (with_entry s b c e) (started s.long s.lines (carry_of b c w)) in
          go after (subst (λ x. Sends s b c e (sent x) after) (sym dirty) (carrying w u p (replaced e (dirty-valid w dirty))))
      by (Err r) p =
          refusing r
          (λ k.
          let is = line-full s.long s.lines (carry_of b c w) r (omega (arith, on.board, k.boards)) (omega (arith, on.cell)) p in
          inl (subst (Limit s call) (sym is.0) (full is.1)))

  read-way : (k : Choice) → On s b c → (e : Entry) → entry ≡ e → Meets (Way s (Step.Read b c)) (read k s b c e)
  read-way k on Entry.Invalid p =
      new-way k (Step.Read b c) (Answer.Word (fetched s b c)) (Entry.Clean (fetched s b c)) (no_entry p)
      (λ t puts.
      reading on
      (newest-word (lane s.lines b c) None (word_of s c) ∙ sym (ap (λ x. read_word x ((project c s).flight b) (word_of s c)) p))
      (subst (λ x. Puts s b c (after_read x (fetched s b c)) t) (sym p) puts))
  read-way k on (Entry.Clean w) p = reading on (sym (ap (λ x. read_word x ((project c s).flight b) (word_of s c)) p)) (stays (p ∙ sym (ap (λ x. after_read x w) p)))
  read-way k on (Entry.Dirty w) p = reading on (sym (ap (λ x. read_word x ((project c s).flight b) (word_of s c)) p)) (stays (p ∙ sym (ap (λ x. after_read x w) p)))

  write-way : (k : Choice) (w : ℕ) → On s b c → (e : Entry) → entry ≡ e → Meets (Way s (Step.Write b c w)) (write k s b c w e)
  write-way k w on Entry.Invalid p = new-way k (Step.Write b c w) Answer.Done (Entry.Dirty w) (no_entry p) (λ t puts. writing on puts)
  write-way k w on (Entry.Clean v) p = writing on (replaced (Entry.Dirty w) (clean-valid v p))
  write-way k w on (Entry.Dirty v) p = writing on (replaced (Entry.Dirty w) (dirty-valid v p))

  free-way : On s b c → owner_of s c ≡ None → (e : Entry) → entry ≡ e → Meets (Way s (Step.Acquire b c)) (acquire_free s b c e)
  free-way on free Entry.Invalid p = acquiring on free (stays (p ∙ sym (ap after_acquire p)))
  free-way on free (Entry.Clean w) p =
      acquiring on free (subst (λ x. Puts s b c (after_acquire x) (with_entry s b c Entry.Invalid)) (sym p) (replaced Entry.Invalid (clean-valid w p)))
  free-way on free (Entry.Dirty w) p = acquiring on free (stays (p ∙ sym (ap after_acquire p)))

  acquire-way : On s b c → (o : Option ℕ) → owner_of s c ≡ o → Meets (Way s (Step.Acquire b c)) (acquire s b c o)
  acquire-way on (Some o) p =
      cond_both (eqb o b) (refuse Refusal.OwnedAlready s) (refuse Refusal.OwnedByAnother s) (Meets (Way s (Step.Acquire b c)))
      (λ _. refusing Refusal.OwnedAlready (λ _. inr (λ free. cc)))
      (λ _. refusing Refusal.OwnedByAnother (λ _. inr (λ free. cc)))
  acquire-way on None p = free-way on p entry refl

  not-settled : unsettled s b c ≡ true → sent entry ≡ [] → (project c s).flight b ≡ [] → ⊥
  not-settled h none-sent none-flies =
      ⊎_elim
      (λ dirty. something-sent entry dirty none-sent)
      (λ flies. something-newest (lane s.lines b c) flies none-flies)
      (or_cases (is_dirty entry) (is_some (newest (lane s.lines b c))) h)

  release-way : On s b c → Meets (Way s (Step.Release b c)) (release s b c)
  release-way on =
      cond_both (is_owner (owner_of s c) b) (cond (unsettled s b c) (refuse Refusal.UnsettledWrite s) (done (with_owner s c None))) (refuse Refusal.NotOwner s) (Meets (Way s (Step.Release b c)))
      (λ own.
      cond_both (unsettled s b c) (refuse Refusal.UnsettledWrite s) (done (with_owner s c None)) (Meets (Way s (Step.Release b c)))
      (λ open'. refusing Refusal.UnsettledWrite (λ _. inr (λ guard. not-settled open' guard.1 guard.2)))
      (λ settled.
      let parts = or_parts (is_dirty entry) (is_some (newest (lane s.lines b c))) settled in
      releasing on (owner-is (owner_of s c) b own, nothing-sent entry parts.0, ap words_of (none-newest (lane s.lines b c) parts.1))))
      (λ other. refusing Refusal.NotOwner (λ _. inr (λ guard. not-owner (owner_of s c) other guard.0)))

  back-way : On s b c → (e : Entry) → entry ≡ e → Meets (Way s (Step.WriteBack b c)) (write_back s b c e)
  back-way on Entry.Invalid p = refusing Refusal.NotCached (λ _. inr (λ guard. dirty-valid guard.0 guard.1 p))
  back-way on (Entry.Clean w) p = refusing Refusal.NotDirty (λ _. inr (λ guard. clean-dirty w guard.0 p guard.1))
  back-way on (Entry.Dirty w) p =
      send-way (Step.WriteBack b c) w (Entry.Clean w) on no_room p
      (λ t sends. writing_back on (w, p) (subst (λ x. Sends s b c (cleaned x) (sent entry) t) (sym p) sends))

  eject-way : On s b c → (e : Entry) → entry ≡ e → Meets (Way s (Step.Eject b c)) (eject s b c e)
  eject-way on Entry.Invalid p = refusing Refusal.NotCached (λ _. inr (λ guard. guard p))
  eject-way on (Entry.Clean w) p =
      ejecting on (clean-valid w p) (subst (λ x. Sends s b c Entry.Invalid (sent x) (with_entry s b c Entry.Invalid)) (sym p) (quietly (replaced Entry.Invalid (clean-valid w p))))
  eject-way on (Entry.Dirty w) p = send-way (Step.Eject b c) w Entry.Invalid on no_room p (λ t sends. ejecting on (dirty-valid w p) sends)

land-way : (s : State) (b c : ℕ) (o : Option Carry) → oldest (lane s.lines b c) ≡ o → Meets (Way s Step.Land) (land s o)
land-way s b c (Some x) p = landing (heads-own s.lines b c x p)
land-way s b c None p = cond_both (quiet s.lines) (Some (Answer.NothingWaits, s)) None (Meets (Way s Step.Land)) (λ _. idling) (λ _. tt)

ways : (k : Choice) (s : State) (call : Step) → Meets (Way s call) (step k s call)
ways k s (Step.Read b c) = checked-way s b c (Step.Read b c) (read k s b c (entry s b c)) refl refl (λ on. read-way s b c k on (entry s b c) refl)
ways k s (Step.Write b c w) = checked-way s b c (Step.Write b c w) (write k s b c w (entry s b c)) refl refl (λ on. write-way s b c k w on (entry s b c) refl)
ways k s (Step.Acquire b c) = checked-way s b c (Step.Acquire b c) (acquire s b c (owner_of s c)) refl refl (λ on. acquire-way s b c on (owner_of s c) refl)
ways k s (Step.Release b c) = checked-way s b c (Step.Release b c) (release s b c) refl refl (λ on. release-way s b c on)
ways k s (Step.WriteBack b c) = checked-way s b c (Step.WriteBack b c) (write_back s b c (entry s b c)) refl refl (λ on. back-way s b c on (entry s b c) refl)
ways k s (Step.Eject b c) = checked-way s b c (Step.Eject b c) (eject s b c (entry s b c)) refl refl (λ on. eject-way s b c on (entry s b c) refl)
ways k s Step.Land =
    cond_both (ltb 0 s.boards) (land s (oldest (lane s.lines k.board k.cell))) (refuse Refusal.NoSuchBoard s) (Meets (Way s Step.Land))
    (λ _. land-way s k.board k.cell (oldest (lane s.lines k.board k.cell)) refl)
    (λ p. refusing Refusal.NoSuchBoard (λ _. inl (no_board (ltb-false 0 s.boards p))))

pub way : (s t : State) (call : Step) (a : Answer) → Takes s call a t → Way s call a t
way s t call a takes = subst (Meets (Way s call)) takes.1 (ways takes.0 s call)

-- a refused step changes nothing, and is refused rightly

abbrev is_refusal : Answer → Bool
is_refusal (Answer.Word w) = false
is_refusal (Answer.Landed x) = false
is_refusal Answer.NothingWaits = false
is_refusal Answer.Done = false
is_refusal (Answer.Refused r) = true

refused-way : {s t : State} {call : Step} {a : Answer} (r : Refusal) → Way s call a t → a ≡ Answer.Refused r → (t ≡ s) × (Sound s → Barred s call r)
refused-way {s = s} {call = call} r (refusing q barred) e = let is : q ≡ r = cc in (refl, λ k. subst (Barred s call) is (barred k))
refused-way r (reading on guard puts) e = absurd (false≢true (ap is_refusal e))
refused-way r (writing on puts) e = absurd (false≢true (ap is_refusal e))
refused-way r (acquiring on guard puts) e = absurd (false≢true (ap is_refusal e))
refused-way r (releasing on guard) e = absurd (false≢true (ap is_refusal e))
refused-way r (writing_back on guard sends) e = absurd (false≢true (ap is_refusal e))
refused-way r (ejecting on guard sends) e = absurd (false≢true (ap is_refusal e))
refused-way r (landing first) e = absurd (false≢true (ap is_refusal e))
refused-way r idling e = absurd (false≢true (ap is_refusal e))

pub refused_keeps : RefusedKeeps
refused_keeps s t call r takes = (refused-way r (way s t call (Answer.Refused r) takes) refl).0

pub refused_rightly : RefusedRightly
refused_rightly s t call r takes = (refused-way r (way s t call (Answer.Refused r) takes) refl).1

-- a bench without boards refuses every step

no-boards-step : (k : Choice) (s : State) (call : Step) → ((b : ℕ) → ltb b s.boards ≡ false) → step k s call ≡ refuse Refusal.NoSuchBoard s
no-boards-step k s (Step.Read b c) none = cond-false (ltb b s.boards) _ _ (none b)
no-boards-step k s (Step.Write b c w) none = cond-false (ltb b s.boards) _ _ (none b)
no-boards-step k s (Step.Acquire b c) none = cond-false (ltb b s.boards) _ _ (none b)
no-boards-step k s (Step.Release b c) none = cond-false (ltb b s.boards) _ _ (none b)
no-boards-step k s (Step.WriteBack b c) none = cond-false (ltb b s.boards) _ _ (none b)
no-boards-step k s (Step.Eject b c) none = cond-false (ltb b s.boards) _ _ (none b)
no-boards-step k s Step.Land none = cond-false (ltb 0 s.boards) _ _ (none 0)

pub no-boards-refuse : NoBoardsRefuse
no-boards-refuse s t call a takes zero =
    let is = sym takes.1 ∙ no-boards-step takes.0 s call (λ b. le-ltb b s.boards (omega arith)) in
    let same : ◌≡◌ {A = Answer × State} (a, t) (Answer.Refused Refusal.NoSuchBoard, s) = cc in
    ap (λ o. o.0) same

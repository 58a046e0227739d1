-- A bench over a first-come path answers each step as the bench told plainly does.
use Rattle.std.proofs.Common.{◌≡◌, ℕ, ◌<◌, Bool, true, false, cond, ◌&&◌, ◌||◌, eqb, ltb, List, [], ◌∷◌, ◌++◌, length, drop, set, is_some, Some, None, Ok, Err, Option, Result, sym, refl, ap, ◌∙◌, subst, arith}
use Rattle.std.proofs.lemmas.Bool.{cond-false, le-ltb, ltb-true}
use Rattle.model.specs.declared.answer.Answer.{Answer}
use Rattle.model.specs.declared.carry.Carry.{Carry}
use Rattle.model.specs.declared.entry.Entry.{Entry}
use Rattle.model.specs.declared.refusal.Refusal.{Refusal}
use Rattle.model.specs.declared.step.Step.{Step}
use Rattle.carries.specs.Lines.{line, lane, oldest, start_at, if_started, started}
use Rattle.carries.specs.Tables.{line_of, lines_of}
use Rattle.carries.proofs.ByBoard.{line-of, lines-push, located-push}
use Rattle.cache.specs.declared.place.Place.{Place}
use Rattle.cache.specs.Places.{store_in, taken_in}
use Rattle.protocol.specs.Machine.{after_acquire}
use Rattle.state.specs.Cells.{project}
use Rattle.state.specs.Opening.{quiet}
use Rattle.state.specs.Runs.{Traffic, none, starts, sent_from, landed_in, traffic_of, Carries}
use Rattle.state.specs.Sound.{Sound}
use Rattle.state.specs.States.{State, cells_of, cache_of, owner_of}
use Rattle.state.specs.Steps.{Choice, Outcome, checked, kept, carry_of, is_dirty, is_owner, unsettled, sent, Takes}
use Rattle.state.specs.States as states
use Rattle.state.specs.Steps as bench
use Rattle.state.proofs.Kept.{board-in, sound-puts}
use Rattle.state.proofs.Ways.{On, Puts, stays, stores, replaced, clean-valid, dirty-valid}
use Rattle.report.specs.Plain.{Plain, Reply, on_bench, new_entry, read, write, acquire, release, send, write_back, eject, land, step, with_entry, newest_of, fetched}
use Rattle.report.specs.Plain as plain
use Rattle.report.proofs.Likes.{Like, same-newest, same-fetched, same_count, like-puts, like-owner, like-lines, like-landed}

-- ── a first-come path, by the carries that wait ──

-- a carry starts behind all others, if its line has room
abbrev pub FirstStarts : List Carry → Carry → List Carry → Type 0
FirstStarts xs x ys = ys ≡ if_started (start_at 8 (lines_of xs) x) (xs ++ x ∷ []) xs

-- the carry started first lands
abbrev pub FirstLands : List Carry → Option Carry → List Carry → Type 0
FirstLands xs o ys = (o ≡ oldest xs) × (ys ≡ drop 1 xs)

-- what is left waiting
abbrev pub Waits : List Carry → Traffic → List Carry → Type 0
Waits = Carries FirstStarts FirstLands

-- ── one step ──

-- the answer is the same, and the benches are alike after it, as are the carries that wait
pub record Agreed (ys : List Carry) (a : Answer) (t : State) (r : Reply) : Type 0 where
  pub answer : a ≡ r.0
  pub like : Like t r.1
  pub waiting : ys ≡ r.1.waiting

-- whatever the path does, where the carries xs wait, with the traffic that goes with the answer
abbrev Agrees : List Carry → (Answer → Traffic) → Outcome → Reply → Type 0
Agrees xs tr None r = Unit {0}
Agrees xs tr (Some o) r = (ys : List Carry) → Waits xs (tr o.0) ys → Agreed ys o.0 o.1 r

-- the same answer, and alike, where the path is asked for nothing
resting : {a : Answer} {t : State} {q : Plain} → Like t q → Agrees q.waiting (λ _. none) (Some (a, t)) (a, q)
resting like ys h = record { answer = refl; like = like; waiting = h }

-- nothing either way
either-none : (q : Bool) → cond q none none ≡ none
either-none true = refl
either-none false = refl

-- a step, by whether the bench has the board and the cell
abbrev turn_by : Plain → (board cell : Bool) → Reply → Reply
turn_by p x y r = cond x (cond y r (plain.refuse Refusal.NoSuchCell p)) (plain.refuse Refusal.NoSuchBoard p)

-- a release, by whether the board owns the cell and has a write of it that is not settled
abbrev release_by : Plain → (c : ℕ) → (owner open' : Bool) → Reply
release_by p c x y = cond x (cond y (plain.refuse Refusal.UnsettledWrite p) (Answer.Done, plain.with_owner p c None)) (plain.refuse Refusal.NotOwner p)

-- a start, by whether the line has room
abbrev answer_by : Bool → Result (Unit {0}) Refusal
answer_by q = cond q (Ok tt) (Err Refusal.LineFull)

-- a step of board b on cell c
module _ (s : State) (p : Plain) (sound : Sound s) (like : Like s p) (b c : ℕ) where
  abbrev entry : Entry
  entry = (project c s).entry b

  -- where the path is asked for nothing
  abbrev Silent : Outcome → Reply → Type 0
  Silent o r = Agrees p.waiting (λ _. none) o r

  -- a refused step changes nothing
  refused : (r : Refusal) → Silent (bench.refuse r s) (plain.refuse r p)
  refused r = resting like

  -- both check the board, then the cell; the path is asked only where they are on the bench
  bench-agrees : (tr : Traffic) (o : Outcome) (r : Reply) → (On s b c → Agrees p.waiting (λ _. tr) o r) → Agrees p.waiting (λ _. cond (ltb b s.boards && ltb c (cells_of s)) tr none) (checked s b c o) (on_bench p b c r)
  bench-agrees tr o r go =
      subst (Agrees p.waiting (λ _. cond (ltb b s.boards && ltb c (cells_of s)) tr none) (checked s b c o))
      (sym (ap (λ n. turn_by p (ltb b n) (ltb c p.cells) r) like.boards ∙ ap (λ n. turn_by p (ltb b s.boards) (ltb c n) r) like.cells))
      (by (ltb b s.boards) (ltb c (cells_of s)) refl refl)
    where
      by : (x y : Bool) → ltb b s.boards ≡ x → ltb c (cells_of s) ≡ y
          → Agrees p.waiting (λ _. cond (x && y) tr none) (cond x (cond y o (bench.refuse Refusal.NoSuchCell s)) (bench.refuse Refusal.NoSuchBoard s)) (turn_by p x y r)
      by true true h k = go (record { board = ltb-true b s.boards h; cell = ltb-true c (cells_of s) k })
      by true false h k = refused Refusal.NoSuchCell
      by false y h k = refused Refusal.NoSuchBoard

  -- a step that asks the path for nothing
  on_quiet : (o : Outcome) (r : Reply) → (On s b c → Silent o r) → Silent (checked s b c o) (on_bench p b c r)
  on_quiet o r go = subst (λ tr. Agrees p.waiting (λ _. tr) (checked s b c o) (on_bench p b c r)) (either-none (ltb b s.boards && ltb c (cells_of s))) (bench-agrees none o r go)

  module _ (on : On s b c) where
    -- an entry is put, stored or there already
    put-entry : {a : Answer} {t : State} (e : Entry) → Puts s b c e t → Silent (Some (a, t)) (a, with_entry p b c e)
    put-entry e puts = resting (like-puts sound on puts like)

    -- an entry that is there is replaced
    replaced-entry : {a : Answer} (e : Entry) → (entry ≡ Entry.Invalid → ⊥) → Silent (Some (a, states.with_entry s b c e)) (a, with_entry p b c e)
    replaced-entry e valid = put-entry e (replaced s b c e valid)

    -- a new entry, if the board may have one more
    new : (k : Choice) (a : Answer) (e : Entry) → Silent (bench.new_entry k s b c a e) (new_entry p b c a e)
    new k a e =
        subst (λ q. Silent (bench.new_entry k s b c a e) (cond q (a, with_entry p b c e) (plain.refuse Refusal.CacheFull p)))
        (sym (ap (λ n. ltb n p.entries) (same_count s p b c sound like on) ∙ ap (ltb (taken_in (cache_of s b))) like.entries))
        (by (ltb (taken_in (cache_of s b)) s.entries) (store_in k.place (cache_of s b) c e) refl)
      where
        by : (q : Bool) (o : Option (List Place)) → store_in k.place (cache_of s b) c e ≡ o
            → Silent (cond q (kept s b a o) (bench.refuse Refusal.CacheFull s)) (cond q (a, with_entry p b c e) (plain.refuse Refusal.CacheFull p))
        by true (Some ps) h = put-entry e (stores k.place ps h)
        by true None h = tt
        by false o h = refused Refusal.CacheFull

    -- a read, by the entry
    reads : (k : Choice) (e : Entry) → Silent (bench.read k s b c e) (read p b c e)
    reads k Entry.Invalid =
        subst (λ w. Silent (bench.new_entry k s b c (Answer.Word w) (Entry.Clean w)) (new_entry p b c (Answer.Word (fetched p b c)) (Entry.Clean (fetched p b c)))) (same-fetched s p b c sound like on)
        (new k (Answer.Word (fetched p b c)) (Entry.Clean (fetched p b c)))
    reads k (Entry.Clean w) = resting like
    reads k (Entry.Dirty w) = resting like

    -- a write, by the entry
    writes : (k : Choice) (w : ℕ) (e : Entry) → entry ≡ e → Silent (bench.write k s b c w e) (write p b c w e)
    writes k w Entry.Invalid h = new k Answer.Done (Entry.Dirty w)
    writes k w (Entry.Clean v) h = replaced-entry (Entry.Dirty w) (clean-valid v h)
    writes k w (Entry.Dirty v) h = replaced-entry (Entry.Dirty w) (dirty-valid v h)

    -- an acquire of a cell without an owner, by the entry
    acquires-free : (e : Entry) → entry ≡ e → Silent (bench.acquire_free s b c e) (Answer.Done, plain.with_owner (with_entry p b c (after_acquire e)) c (Some b))
    acquires-free Entry.Invalid h = resting (like-owner c (Some b) sound on.cell (like-puts sound on (stays h) like))
    acquires-free (Entry.Clean w) h =
        let puts = replaced s b c Entry.Invalid (clean-valid w h) in
        resting (like-owner c (Some b) (sound-puts (board-in s b c on sound) puts sound) on.cell (like-puts sound on puts like))
    acquires-free (Entry.Dirty w) h = resting (like-owner c (Some b) sound on.cell (like-puts sound on (stays h) like))

    -- an acquire, by the owner
    acquires : (o : Option ℕ) → Silent (bench.acquire s b c o) (acquire p b c o)
    acquires (Some o) = by (eqb o b)
      where
        by : (q : Bool) → Silent (cond q (bench.refuse Refusal.OwnedAlready s) (bench.refuse Refusal.OwnedByAnother s)) (cond q (plain.refuse Refusal.OwnedAlready p) (plain.refuse Refusal.OwnedByAnother p))
        by true = refused Refusal.OwnedAlready
        by false = refused Refusal.OwnedByAnother
    acquires None =
        subst (λ e. Silent (bench.acquire_free s b c entry) (Answer.Done, plain.with_owner (with_entry p b c (after_acquire e)) c (Some b))) (sym (like.entry b c))
        (acquires-free entry refl)

    -- a release: both look at the owner, the entry and the newest carry
    releases : Silent (bench.release s b c) (release p b c)
    releases =
        subst (Silent (bench.release s b c)) (sym (ap (λ o. release_by p c (is_owner o b) (is_dirty (p.entry b c) || is_some (newest_of p b c))) (like.owner c) ∙ ap (release_by p c (is_owner (owner_of s c) b)) same-unsettled))
        (by (is_owner (owner_of s c) b) (unsettled s b c))
      where
        same-unsettled : (is_dirty (p.entry b c) || is_some (newest_of p b c)) ≡ unsettled s b c
        same-unsettled = ap (λ e. is_dirty e || is_some (newest_of p b c)) (like.entry b c) ∙ ap (λ o. is_dirty entry || is_some o) (same-newest s p b c sound like on)

        by : (x y : Bool) → Silent (cond x (cond y (bench.refuse Refusal.UnsettledWrite s) (bench.done (states.with_owner s c None))) (bench.refuse Refusal.NotOwner s)) (release_by p c x y)
        by true true = refused Refusal.UnsettledWrite
        by true false = resting (like-owner c None sound on.cell like)
        by false y = refused Refusal.NotOwner

    -- a word is sent, if the board's line has room
    sends : (w : ℕ) (e : Entry) → entry ≡ Entry.Dirty w → Agrees p.waiting (λ _. starts (carry_of b c w)) (bench.send s b c w e) (send p b c w e)
    sends w e dirty = by (ltb (length (line_of b p.waiting)) 8) refl
      where
        x : Carry
        x = carry_of b c w

        in' : b < 8
        in' = board-in s b c on sound

        -- the path's own test is the same
        start : start_at 8 (lines_of p.waiting) x ≡ answer_by (ltb (length (line_of b p.waiting)) 8)
        start =
            cond-false (ltb 7 b) _ _ (le-ltb 7 b (omega arith))
            ∙ cond-false (ltb 63 c) _ _ (le-ltb 63 c (omega (arith, on.cell)))
            ∙ ap (λ l. answer_by (ltb (length l) 8)) (line-of p.waiting b in')

        given : start_at s.long s.lines x ≡ start_at 8 (lines_of p.waiting) x
        given = ap (λ n. start_at n s.lines x) like.long ∙ ap (λ ls. start_at 8 ls x) like.lines

        by : (q : Bool) → ltb (length (line_of b p.waiting)) 8 ≡ q → Agrees p.waiting (λ _. starts x) (bench.send s b c w e) (cond q (Answer.Done, plain.with_waiting (with_entry p b c e) (p.waiting ++ x ∷ [])) (plain.refuse Refusal.LineFull p))
        by true h =
            subst (λ r. Agrees p.waiting (λ _. starts x) (sent r s b c w e) (Answer.Done, plain.with_waiting (with_entry p b c e) (p.waiting ++ x ∷ []))) (sym (given ∙ start ∙ ap answer_by h))
            (λ ys took.
            record {
              answer = refl;
              like = like-lines (started s.long s.lines x) (p.waiting ++ x ∷ []) joined (located-push p.waiting x like.located in' (omega (arith, on.cell))) (like-puts sound on (replaced s b c e (dirty-valid w dirty)) like);
              waiting = took ∙ ap (λ r. if_started r (p.waiting ++ x ∷ []) p.waiting) (start ∙ ap answer_by h);
            })
          where
            joined : started s.long s.lines x ≡ lines_of (p.waiting ++ x ∷ [])
            joined =
                ap (λ r. if_started r (set s.lines b (line s.lines b ++ x ∷ [])) s.lines) (given ∙ start ∙ ap answer_by h)
                ∙ ap (λ ls. set ls b (line ls b ++ x ∷ [])) like.lines
                ∙ sym (lines-push p.waiting x in')
        by false h =
            subst (λ r. Agrees p.waiting (λ _. starts x) (sent r s b c w e) (plain.refuse Refusal.LineFull p)) (sym (given ∙ start ∙ ap answer_by h))
            (λ ys took. record { answer = refl; like = like; waiting = took ∙ ap (λ r. if_started r (p.waiting ++ x ∷ []) p.waiting) (start ∙ ap answer_by h) })

    -- a write back, by the entry
    writes_back : (e : Entry) → entry ≡ e → Agrees p.waiting (λ _. sent_from b c e) (bench.write_back s b c e) (write_back p b c e)
    writes_back Entry.Invalid h = refused Refusal.NotCached
    writes_back (Entry.Clean w) h = refused Refusal.NotDirty
    writes_back (Entry.Dirty w) h = sends w (Entry.Clean w) h

    -- an eject, by the entry
    ejects : (e : Entry) → entry ≡ e → Agrees p.waiting (λ _. sent_from b c e) (bench.eject s b c e) (eject p b c e)
    ejects Entry.Invalid h = refused Refusal.NotCached
    ejects (Entry.Clean w) h = replaced-entry Entry.Invalid (clean-valid w h)
    ejects (Entry.Dirty w) h = sends w Entry.Invalid h

-- a landing, by the carry that the choice gives and the carries that wait
landing : (s : State) (p : Plain) → Like s p → (o : Option Carry) (xs : List Carry) → p.waiting ≡ xs → Agrees xs landed_in (bench.land s o) (land p xs)
landing s p like (Some x) [] is = λ ys took. absurd (let z : ◌≡◌ {A = ℕ} 0 1 = cc took.0 in omega arith)
landing s p like (Some x) (y ∷ xs) is = λ ys took.
    let same : y ≡ x = cc took.0 in
    record {
      answer = ap Answer.Landed (sym same);
      like = subst (λ z. Like (bench.landed s z) (land p (y ∷ xs)).1) same (like-landed y xs is like);
      waiting = took.1;
    }
landing s p like None xs is = by (quiet s.lines) xs is
  where
    by : (q : Bool) (xs : List Carry) → p.waiting ≡ xs → Agrees xs landed_in (cond q (Some (Answer.NothingWaits, s)) None) (land p xs)
    by true [] is = λ ys took. record { answer = refl; like = like; waiting = took.1 ∙ sym is }
    by true (x ∷ xs) is = λ ys took. absurd (let z : ◌≡◌ {A = ℕ} 0 1 = cc took.0 in omega arith)
    by false xs is = tt

module _ (s : State) (p : Plain) (sound : Sound s) (like : Like s p) where
  -- a step that looks at the entry
  by-entry : (b c : ℕ) (tr : Entry → Traffic) (o : Outcome) (f : Entry → Reply) → Agrees p.waiting (λ _. tr ((project c s).entry b)) o (f ((project c s).entry b)) → Agrees p.waiting (λ _. tr ((project c s).entry b)) o (f (p.entry b c))
  by-entry b c tr o f h = subst (λ e. Agrees p.waiting (λ _. tr ((project c s).entry b)) o (f e)) (sym (like.entry b c)) h

  -- every step, whatever the choice
  agrees : (k : Choice) (call : Step) → Agrees p.waiting (traffic_of s call) (bench.step k s call) (step p call)
  agrees k (Step.Read b c) = on_quiet s p sound like b c _ _ (λ on. by-entry b c (λ _. none) _ (read p b c) (reads s p sound like b c on k ((project c s).entry b)))
  agrees k (Step.Write b c w) = on_quiet s p sound like b c _ _ (λ on. by-entry b c (λ _. none) _ (write p b c w) (writes s p sound like b c on k w ((project c s).entry b) refl))
  agrees k (Step.Acquire b c) =
      on_quiet s p sound like b c _ _
      (λ on. subst (λ o. Agrees p.waiting (λ _. none) (bench.acquire s b c (owner_of s c)) (acquire p b c o)) (sym (like.owner c)) (acquires s p sound like b c on (owner_of s c)))
  agrees k (Step.Release b c) = on_quiet s p sound like b c _ _ (releases s p sound like b c)
  agrees k (Step.WriteBack b c) = bench-agrees s p sound like b c _ _ _ (λ on. by-entry b c (sent_from b c) _ (write_back p b c) (writes_back s p sound like b c on ((project c s).entry b) refl))
  agrees k (Step.Eject b c) = bench-agrees s p sound like b c _ _ _ (λ on. by-entry b c (sent_from b c) _ (eject p b c) (ejects s p sound like b c on ((project c s).entry b) refl))
  agrees k Step.Land =
      subst (λ n. Agrees p.waiting landed_in (bench.step k s Step.Land) (cond (ltb 0 n) (land p p.waiting) (plain.refuse Refusal.NoSuchBoard p))) (sym like.boards)
      (by (ltb 0 s.boards))
    where
      by : (q : Bool) → Agrees p.waiting landed_in (cond q (bench.land s (oldest (lane s.lines k.board k.cell))) (bench.refuse Refusal.NoSuchBoard s)) (cond q (land p p.waiting) (plain.refuse Refusal.NoSuchBoard p))
      by true = landing s p like (oldest (lane s.lines k.board k.cell)) p.waiting refl
      by false = λ ys h. record { answer = refl; like = like; waiting = h }

  -- a step that the bench takes, where the path does its part
  pub agreed : (t : State) (call : Step) (a : Answer) (ys : List Carry) → Takes s call a t → Waits p.waiting (traffic_of s call a) ys → Agreed ys a t (step p call)
  agreed t call a ys takes took = subst (λ o. Agrees p.waiting (traffic_of s call) o (step p call)) takes.1 (agrees takes.0 call) ys took

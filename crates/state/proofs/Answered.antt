-- Every step has an answer: some choice is open.
use Rattle.std.proofs.Common.{◌≡◌, ℕ, suc, ◌<◌, ◌≤◌, true, false, cond, eqb, ltb, ◌⊎◌, List, [], ◌∷◌, length, is_some, Some, None, Ok, Err, filter, Option, Result, refl, ap, ◌∙◌, subst, inl, inr, ⊎_elim, arith}
use Rattle.std.proofs.lemmas.Bool.{both_ways, cases_lt, cond_both, cond-true, and_from, eq-eqb, ltb-true}
use Rattle.std.specs.List.{AllByRecursion}
use Rattle.model.specs.declared.answer.Answer.{Answer}
use Rattle.model.specs.declared.carry.Carry.{Carry}
use Rattle.model.specs.declared.entry.Entry.{Entry}
use Rattle.model.specs.declared.refusal.Refusal.{Refusal}
use Rattle.model.specs.declared.step.Step.{Step}
use Rattle.carries.specs.Lines.{line, of_lane, lane, oldest, start_at, Proper}
use Rattle.cache.specs.declared.place.Place.{Place}
use Rattle.cache.specs.Places.{taken_in, store_in}
use Rattle.state.specs.Cells.{project}
use Rattle.state.specs.Laws.{AlwaysAnswered}
use Rattle.state.specs.Opening.{quiet}
use Rattle.state.specs.Sound.{Sound}
use Rattle.state.specs.States.{State, cells_of, cache_of, owner_of, with_owner}
use Rattle.state.specs.Steps.{Choice, Outcome, refuse, done, checked, kept, new_entry, fetched, read, write, acquire_free, acquire, is_owner, unsettled, release, carry_of, sent, write_back, eject, land, step}
use Rattle.state.proofs.Kept.{cache-of}
use Rattle.state.proofs.Stores.{storable}

abbrev pub at_place : ℕ → Choice
at_place i = record { place = i; board = 0; cell = 0 }

abbrev pub at_lane : (b c : ℕ) → Choice
at_lane b c = record { place = 0; board = b; cell = c }

-- the choice is open
abbrev Open : Outcome → Type 0
Open o = is_some o ≡ true

answer-of : (o : Outcome) → Open o → (a : Answer) × (t : State) × (o ≡ Some (a, t))
answer-of (Some x) h = (x.0, x.1, refl)
answer-of None h = absurd (both_ways false refl h)

open-checked : (s : State) (b c : ℕ) (o : Outcome) → (b < s.boards → Open o) → Open (checked s b c o)
open-checked s b c o go =
    cond_both (ltb b s.boards) (cond (ltb c (cells_of s)) o (refuse Refusal.NoSuchCell s)) (refuse Refusal.NoSuchBoard s) Open
    (λ p. cond_both (ltb c (cells_of s)) o (refuse Refusal.NoSuchCell s) Open (λ _. go (ltb-true b s.boards p)) (λ _. refl))
    (λ _. refl)

-- a place that a new entry may take, if the board may have one more
module _ (s : State) (b : ℕ) (k : Sound s) where
  abbrev Room : ℕ → Type 0
  Room i = b < s.boards → ltb (taken_in (cache_of s b)) s.entries ≡ true → (c : ℕ) (e : Entry) → is_some (store_in i (cache_of s b) c e) ≡ true

  room : (i : ℕ) × Room i
  room =
      ⊎_elim
      (λ (h : taken_in (cache_of s b) < length (cache_of s b)). let r = storable (cache_of s b) h in (r.0, λ _ _. r.1))
      (λ (h : length (cache_of s b) ≤ taken_in (cache_of s b)).
      (0, λ on few. absurd (omega (arith, ltb-true (taken_in (cache_of s b)) s.entries few, k.entries, (cache-of s b (omega (arith, k.boards)) k).0))))
      (cases_lt (taken_in (cache_of s b)) (length (cache_of s b)))

  open-new : (c : ℕ) (a : Answer) (e : Entry) → b < s.boards → Open (new_entry (at_place room.0) s b c a e)
  open-new c a e on =
      cond_both (ltb (taken_in (cache_of s b)) s.entries) (kept s b a (store_in room.0 (cache_of s b) c e)) (refuse Refusal.CacheFull s) Open
      (λ few. by (store_in room.0 (cache_of s b) c e) (room.1 on few c e))
      (λ _. refl)
    where
      by : (o : Option (List Place)) → is_some o ≡ true → Open (kept s b a o)
      by (Some ps) h = refl
      by None h = absurd (both_ways false refl h)

  open-read : (c : ℕ) (e : Entry) → b < s.boards → Open (read (at_place room.0) s b c e)
  open-read c Entry.Invalid on = open-new c (Answer.Word (fetched s b c)) (Entry.Clean (fetched s b c)) on
  open-read c (Entry.Clean w) on = refl
  open-read c (Entry.Dirty w) on = refl

  open-write : (c w : ℕ) (e : Entry) → b < s.boards → Open (write (at_place room.0) s b c w e)
  open-write c w Entry.Invalid on = open-new c Answer.Done (Entry.Dirty w) on
  open-write c w (Entry.Clean v) on = refl
  open-write c w (Entry.Dirty v) on = refl

-- where nothing is to choose
module _ (s : State) (b c : ℕ) where
  open_free : (e : Entry) → Open (acquire_free s b c e)
  open_free Entry.Invalid = refl
  open_free (Entry.Clean w) = refl
  open_free (Entry.Dirty w) = refl

  open-acquire : (o : Option ℕ) → Open (acquire s b c o)
  open-acquire (Some o) = cond_both (eqb o b) (refuse Refusal.OwnedAlready s) (refuse Refusal.OwnedByAnother s) Open (λ _. refl) (λ _. refl)
  open-acquire None = open_free ((project c s).entry b)

  open-release : Open (release s b c)
  open-release =
      cond_both (is_owner (owner_of s c) b) (cond (unsettled s b c) (refuse Refusal.UnsettledWrite s) (done (with_owner s c None))) (refuse Refusal.NotOwner s) Open
      (λ _. cond_both (unsettled s b c) (refuse Refusal.UnsettledWrite s) (done (with_owner s c None)) Open (λ _. refl) (λ _. refl))
      (λ _. refl)

  open-sent : (r : Result (Unit {0}) Refusal) (w : ℕ) (e : Entry) → Open (sent r s b c w e)
  open-sent (Ok u) w e = refl
  open-sent (Err r) w e = refl

  open-back : (e : Entry) → Open (write_back s b c e)
  open-back Entry.Invalid = refl
  open-back (Entry.Clean w) = refl
  open-back (Entry.Dirty w) = open-sent (start_at s.long s.lines (carry_of b c w)) w (Entry.Clean w)

  open-eject : (e : Entry) → Open (eject s b c e)
  open-eject Entry.Invalid = refl
  open-eject (Entry.Clean w) = refl
  open-eject (Entry.Dirty w) = open-sent (start_at s.long s.lines (carry_of b c w)) w Entry.Invalid

-- a carry that waits, if there is one
waiting : (ls : List (List Carry)) → (quiet ls ≡ true) ⊎ ((b : ℕ) × (x : Carry) × (xs : List Carry) × (line ls b ≡ x ∷ xs))
waiting [] = inl refl
waiting ((x ∷ xs) ∷ ls) = inr (0, x, xs, refl)
waiting ([] ∷ ls) = ⊎_elim (λ q. inl q) (λ r. inr (suc r.0, r.1, r.2, r.3)) (waiting ls)

-- in lines of their own boards, the first of a line is the oldest of its lane
heads-lane : (n : ℕ) (ls : List (List Carry)) (b : ℕ) (x : Carry) (xs : List Carry) → Proper n ls → line ls b ≡ x ∷ xs → oldest (lane ls b x.cell) ≡ Some x
heads-lane n ls b x xs p e =
    let own = subst (AllByRecursion (λ y. (y.board ≡ b) × (y.cell ≤ 63))) e (p.own b) in
    let is = and_from (eqb x.board b) (eqb x.cell x.cell) (eq-eqb x.board b own.0.0) (eq-eqb x.cell x.cell refl) in
    ap (λ l. oldest (filter (of_lane b x.cell) l)) e ∙ ap oldest (cond-true (of_lane b x.cell x) (x ∷ filter (of_lane b x.cell) xs) (filter (of_lane b x.cell) xs) is)

open-land : (s : State) (o : Option Carry) → (quiet s.lines ≡ true) ⊎ ((x : Carry) × (o ≡ Some x)) → Open (land s o)
open-land s (Some x) h = refl
open-land s None (inl q) = ap is_some (cond-true (quiet s.lines) (Some (Answer.NothingWaits, s)) None q)
open-land s None (inr (x, e)) = cc

open-lane : (s : State) → Sound s → (k : Choice) × Open (step k s Step.Land)
open-lane s k = ⊎_elim (λ q. on 0 0 (inl q)) (λ r. on r.0 r.1.cell (inr (r.1, heads-lane s.long s.lines r.0 r.1 r.2 k.lines r.3))) (waiting s.lines)
  where
    on : (b c : ℕ) → (quiet s.lines ≡ true) ⊎ ((x : Carry) × (oldest (lane s.lines b c) ≡ Some x)) → (k : Choice) × Open (step k s Step.Land)
    on b c h = (
      at_lane b c,
      cond_both (ltb 0 s.boards) (land s (oldest (lane s.lines b c))) (refuse Refusal.NoSuchBoard s) Open
          (λ _. open-land s (oldest (lane s.lines b c)) h)
          (λ _. refl),
    )

open_step : (s : State) (call : Step) → Sound s → (k : Choice) × Open (step k s call)
open_step s (Step.Read b c) k = (at_place (room s b k).0, open-checked s b c (read (at_place (room s b k).0) s b c ((project c s).entry b)) (open-read s b k c ((project c s).entry b)))
open_step s (Step.Write b c w) k = (at_place (room s b k).0, open-checked s b c (write (at_place (room s b k).0) s b c w ((project c s).entry b)) (open-write s b k c w ((project c s).entry b)))
open_step s (Step.Acquire b c) k = (at_place 0, open-checked s b c (acquire s b c (owner_of s c)) (λ _. open-acquire s b c (owner_of s c)))
open_step s (Step.Release b c) k = (at_place 0, open-checked s b c (release s b c) (λ _. open-release s b c))
open_step s (Step.WriteBack b c) k = (at_place 0, open-checked s b c (write_back s b c ((project c s).entry b)) (λ _. open-back s b c ((project c s).entry b)))
open_step s (Step.Eject b c) k = (at_place 0, open-checked s b c (eject s b c ((project c s).entry b)) (λ _. open-eject s b c ((project c s).entry b)))
open_step s Step.Land k = open-lane s k

pub answered : AlwaysAnswered
answered s call k =
    let chosen = open_step s call k in
    let r = answer-of (step chosen.0 s call) chosen.1 in
    (r.0, r.1, (chosen.0, r.2))

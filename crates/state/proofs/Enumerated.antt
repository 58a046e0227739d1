-- Every outcome of a step is that of one of a few choices. So the answers that a list of steps may have can be computed,
-- and where all of them are the same, they are the answers.
use Rattle.std.proofs.Common.{◌≡◌, ℕ, zero, suc, ◌<◌, ◌≤◌, Bool, true, false, cond, ltb, List, [], ◌∷◌, ◌++◌, map, length, set, replicate, Some, None, filter, Option, sym, refl, ap, ◌∙◌, subst, ⊎_elim, arith}
use Rattle.std.proofs.lemmas.List.FromFn.{length-map-range_with_len, get_or-map-range_with_len}
use Rattle.std.proofs.ByRecursion.{All-get_or, All-weaker}
use Rattle.std.proofs.lemmas.List.{get_or_past}
use Rattle.std.proofs.lemmas.Bool.{cases_Bool, cases_lt, cond-false, and_left, le-ltb}
use Rattle.std.specs.List.{range_with_len, AllByRecursion}
use Rattle.model.specs.declared.answer.Answer.{Answer}
use Rattle.model.specs.declared.carry.Carry.{Carry}
use Rattle.model.specs.declared.entry.Entry.{Entry}
use Rattle.model.specs.declared.refusal.Refusal.{Refusal}
use Rattle.model.specs.declared.step.Step.{Step}
use Rattle.carries.specs.Lines.{line, of_lane, lane, oldest}
use Rattle.cache.specs.declared.place.Place.{Place}
use Rattle.cache.specs.Places.{place_for, stands_in, taken_in, replace_in, vacant, store_in}
use Rattle.state.specs.Cases.{Surely}
use Rattle.state.specs.Cells.{project}
use Rattle.state.specs.Chains.{Chain, end, link}
use Rattle.state.specs.Opening.{quiet}
use Rattle.state.specs.Sound.{Sound}
use Rattle.state.specs.States.{State, cells_of, cache_of}
use Rattle.state.specs.Steps.{Choice, Outcome, refuse, checked, kept, new_entry, fetched, read, write, land, step}
use Rattle.state.proofs.Answered.{at_place, at_lane}
use Rattle.state.proofs.Chains.{lists_answered}
use Rattle.state.proofs.Flights.{heads-own}
use Rattle.state.proofs.Kept.{cache-of, sound-kept}
use Rattle.state.proofs.Lists.{all-parts, all_alike}
use Rattle.state.proofs.Opened.{quiet-lines}

-- the choices that matter: the eight places where an entry is new, and the lanes where a carry waits

abbrev placed : Entry → (ℕ → Outcome) → List Outcome
placed Entry.Invalid f = map f (range_with_len 0 8)
placed (Entry.Clean w) f = f 0 ∷ []
placed (Entry.Dirty w) f = f 0 ∷ []

abbrev gathered : {X Y : Type 0} → (X → List Y) → List X → List Y
gathered f [] = []
gathered f (x ∷ xs) = f x ++ gathered f xs

abbrev outcomes : State → Step → List Outcome
outcomes s (Step.Read b c) = placed ((project c s).entry b) (λ i. step (at_place i) s (Step.Read b c))
outcomes s (Step.Write b c w) = placed ((project c s).entry b) (λ i. step (at_place i) s (Step.Write b c w))
outcomes s (Step.Acquire b c) = step (at_place 0) s (Step.Acquire b c) ∷ []
outcomes s (Step.Release b c) = step (at_place 0) s (Step.Release b c) ∷ []
outcomes s (Step.WriteBack b c) = step (at_place 0) s (Step.WriteBack b c) ∷ []
outcomes s (Step.Eject b c) = step (at_place 0) s (Step.Eject b c) ∷ []
outcomes s Step.Land = step (at_lane 0 0) s Step.Land ∷ gathered (λ xs. map (λ x. step (at_lane x.board x.cell) s Step.Land) xs) s.lines

abbrev continued : Outcome → (State → List (List Answer)) → List (List Answer)
continued None go = []
continued (Some o) go = map (λ answers. o.0 ∷ answers) (go o.1)

-- the answers that a list of steps may have
abbrev pub runs : State → List Step → List (List Answer)
runs s [] = [] ∷ []
runs s (call ∷ calls) = gathered (λ o. continued o (λ t. runs t calls)) (outcomes s call)

-- what holds of all of a list that is mapped or gathered

all-gathered : {X Y : Type 0} (P : Y → Type 0) (f : X → List Y) (xs : List X) → AllByRecursion P (gathered f xs) → AllByRecursion (λ x. AllByRecursion P (f x)) xs
all-gathered P f [] all = tt
all-gathered P f (x ∷ xs) all = let parts = all-parts P (f x) (gathered f xs) all in (parts.0, all-gathered P f xs parts.1)

all-mapped : {X Y : Type 0} (P : Y → Type 0) (f : X → Y) (xs : List X) → AllByRecursion P (map f xs) → AllByRecursion (λ x. P (f x)) xs
all-mapped P f [] all = tt
all-mapped P f (x ∷ xs) all = (all.0, all-mapped P f xs all.1)

all-below : (P : Outcome → Type 0) (f : ℕ → Outcome) (n i : ℕ) → i < n → AllByRecursion P (map f (range_with_len 0 n)) → P (f i)
all-below P f n i h all =
    subst P (get_or-map-range_with_len f 0 n i i None h (omega arith)) (All-get_or P (map f (range_with_len 0 n)) i None (omega (arith, length-map-range_with_len f 0 n)) all)

all-oldest : (P : Carry → Type 0) (b c : ℕ) (xs : List Carry) (x : Carry) → AllByRecursion P xs → oldest (filter (of_lane b c) xs) ≡ Some x → P x
all-oldest P b c [] x all e = absurd (let z : ◌≡◌ {A = ℕ} 0 1 = cc in omega arith)
all-oldest P b c (y ∷ ys) x all e =
    ⊎_elim
    (λ (t : of_lane b c y ≡ true). let is : y ≡ x = cc in subst P is all.0)
    (λ (f : of_lane b c y ≡ false). all-oldest P b c ys x all.1 (sym (ap oldest (cond-false (of_lane b c y) (y ∷ filter (of_lane b c) ys) (filter (of_lane b c) ys) f)) ∙ e))
    (cases_Bool (of_lane b c y))

-- what one choice gives, another does too
abbrev Within : Outcome → Outcome → Type 0
Within x y = (o : Answer × State) → x ≡ Some o → y ≡ Some o

within-if : (q : Bool) (x y z : Outcome) → Within x y → Within (cond q x z) (cond q y z)
within-if true x y z h = h
within-if false x y z h = λ o e. e

-- a place past the eighth gives nothing that place 0 does not; and so does every place where the entry is not new
module _ (s : State) (sound : Sound s) (i b c : ℕ) where
  few-places : length (cache_of s b) ≤ 8
  few-places =
      ⊎_elim
      (λ (h : b < 8). omega (arith, (cache-of s b h sound).0))
      (λ (h : 8 ≤ b). omega (arith, ap length (get_or_past s.caches b [] (omega (arith, sound.caches)))))
      (cases_lt b 8)

  far-store : 8 ≤ i → (e : Entry) (ps : List Place) → store_in i (cache_of s b) c e ≡ Some ps → store_in 0 (cache_of s b) c e ≡ Some ps
  far-store far e ps p = by (stands_in (cache_of s b) c) p
    where
      not-vacant : vacant (cache_of s b) i ≡ false
      not-vacant = and_left (ltb i (length (cache_of s b))) _ (le-ltb i (length (cache_of s b)) (omega (arith, few-places)))

      by : (q : Bool) → cond q (Some (replace_in (cache_of s b) c (place_for c e))) (cond (vacant (cache_of s b) i) (Some (set (cache_of s b) i (place_for c e))) None) ≡ Some ps
          → cond q (Some (replace_in (cache_of s b) c (place_for c e))) (cond (vacant (cache_of s b) 0) (Some (set (cache_of s b) 0 (place_for c e))) None) ≡ Some ps
      by true h = h
      by false h = let none = sym (cond-false (vacant (cache_of s b) i) (Some (set (cache_of s b) i (place_for c e))) None not-vacant) ∙ h in cc

  far-new : 8 ≤ i → (a : Answer) (e : Entry) → Within (new_entry (at_place i) s b c a e) (new_entry (at_place 0) s b c a e)
  far-new far a e =
      within-if (ltb (taken_in (cache_of s b)) s.entries) (kept s b a (store_in i (cache_of s b) c e)) (kept s b a (store_in 0 (cache_of s b) c e)) (refuse Refusal.CacheFull s)
      (by (store_in i (cache_of s b) c e) refl)
    where
      by : (r : Option (List Place)) → store_in i (cache_of s b) c e ≡ r → Within (kept s b a r) (kept s b a (store_in 0 (cache_of s b) c e))
      by (Some ps) p o q = ap (kept s b a) (far-store far e ps p) ∙ q
      by None p o q = cc

  alike_read : (e : Entry) → (e ≡ Entry.Invalid → 8 ≤ i) → Within (read (at_place i) s b c e) (read (at_place 0) s b c e)
  alike_read Entry.Invalid far = far-new (far refl) (Answer.Word (fetched s b c)) (Entry.Clean (fetched s b c))
  alike_read (Entry.Clean w) far = λ o e. e
  alike_read (Entry.Dirty w) far = λ o e. e

  alike-write : (w : ℕ) (e : Entry) → (e ≡ Entry.Invalid → 8 ≤ i) → Within (write (at_place i) s b c w e) (write (at_place 0) s b c w e)
  alike-write w Entry.Invalid far = far-new (far refl) Answer.Done (Entry.Dirty w)
  alike-write w (Entry.Clean v) far = λ o e. e
  alike-write w (Entry.Dirty v) far = λ o e. e

  alike-checked : (x y : Outcome) → Within x y → Within (checked s b c x) (checked s b c y)
  alike-checked x y h =
      within-if (ltb b s.boards) (cond (ltb c (cells_of s)) x (refuse Refusal.NoSuchCell s)) (cond (ltb c (cells_of s)) y (refuse Refusal.NoSuchCell s)) (refuse Refusal.NoSuchBoard s)
      (within-if (ltb c (cells_of s)) x y (refuse Refusal.NoSuchCell s) h)

-- every outcome is listed

all_placed : (P : Outcome → Type 0) (e : Entry) (f : ℕ → Outcome) (i : ℕ) → AllByRecursion P (placed e f) → ((e ≡ Entry.Invalid → 8 ≤ i) → Within (f i) (f 0)) → (o : Answer × State) → f i ≡ Some o → P (Some o)
all_placed P Entry.Invalid f i all alike o p =
    ⊎_elim
    (λ (h : i < 8). subst P p (all-below P f 8 i h all))
    (λ (h : 8 ≤ i). subst P (alike (λ _. h) o p) (all-below P f 8 0 (omega arith) all))
    (cases_lt i 8)
all_placed P (Entry.Clean w) f i all alike o p = subst P (alike (λ q. let z : ◌≡◌ {A = ℕ} 0 1 = cc in omega arith) o p) all.0
all_placed P (Entry.Dirty w) f i all alike o p = subst P (alike (λ q. let z : ◌≡◌ {A = ℕ} 0 1 = cc in omega arith) o p) all.0

all-line : (P : Carry → Type 0) (ls : List (List Carry)) (b : ℕ) → AllByRecursion (AllByRecursion P) ls → AllByRecursion P (line ls b)
all-line P [] b all = tt
all-line P (l ∷ ls) zero all = all.0
all-line P (l ∷ ls) (suc b) all = all-line P ls b all.1

-- where nothing waits, no lane has a carry
idle-lane : (s : State) → Within (land s None) (land s (oldest (lane s.lines 0 0)))
idle-lane s o e =
    ⊎_elim
    (λ (q : quiet s.lines ≡ true). ap (λ l. land s (oldest (filter (of_lane 0 0) l))) (quiet-lines s.lines q 0) ∙ e)
    (λ (q : quiet s.lines ≡ false). let none = sym (cond-false (quiet s.lines) (Some (Answer.NothingWaits, s)) None q) ∙ e in cc)
    (cases_Bool (quiet s.lines))

all_lanes : (P : Outcome → Type 0) (s : State) (k : Choice) → AllByRecursion P (outcomes s Step.Land) → (o : Answer × State) → step k s Step.Land ≡ Some o → P (Some o)
all_lanes P s k all o p = by (oldest (lane s.lines k.board k.cell)) refl
  where
    landing : Option Carry → Outcome
    landing r = cond (ltb 0 s.boards) (land s r) (refuse Refusal.NoSuchBoard s)

    by : (r : Option Carry) → oldest (lane s.lines k.board k.cell) ≡ r → P (Some o)
    by (Some x) q =
        let listed = all-gathered P (λ xs. map (λ x. step (at_lane x.board x.cell) s Step.Land) xs) s.lines all.1 in
        let at : Carry → Type 0 = λ y. P (step (at_lane y.board y.cell) s Step.Land) in
        let each = all-line at s.lines k.board (All-weaker (λ xs. AllByRecursion P (map (λ x. step (at_lane x.board x.cell) s Step.Land) xs)) (AllByRecursion at) (λ xs. all-mapped P (λ x. step (at_lane x.board x.cell) s Step.Land) xs) s.lines listed) in
        subst P (ap landing (heads-own s.lines k.board k.cell x q ∙ sym q) ∙ p) (all-oldest at k.board k.cell (line s.lines k.board) x each q)
    by None q =
        subst P
        (within-if (ltb 0 s.boards) (land s None) (land s (oldest (lane s.lines 0 0))) (refuse Refusal.NoSuchBoard s) (idle-lane s) o (ap landing (sym q) ∙ p))
        all.0

listed : (P : Outcome → Type 0) (s : State) (k : Choice) (call : Step) → Sound s → AllByRecursion P (outcomes s call) → (o : Answer × State) → step k s call ≡ Some o → P (Some o)
listed P s k (Step.Read b c) sound all =
    let e = (project c s).entry b in
    all_placed P e (λ i. step (at_place i) s (Step.Read b c)) k.place all
    (λ far. alike-checked s sound k.place b c (read (at_place k.place) s b c e) (read (at_place 0) s b c e) (alike_read s sound k.place b c e far))
listed P s k (Step.Write b c w) sound all =
    let e = (project c s).entry b in
    all_placed P e (λ i. step (at_place i) s (Step.Write b c w)) k.place all
    (λ far. alike-checked s sound k.place b c (write (at_place k.place) s b c w e) (write (at_place 0) s b c w e) (alike-write s sound k.place b c w e far))
listed P s k (Step.Acquire b c) sound all = λ o p. subst P p all.0
listed P s k (Step.Release b c) sound all = λ o p. subst P p all.0
listed P s k (Step.WriteBack b c) sound all = λ o p. subst P p all.0
listed P s k (Step.Eject b c) sound all = λ o p. subst P p all.0
listed P s k Step.Land sound all = all_lanes P s k all

-- every chain is among the runs

all_runs : (P : List Answer → Type 0) {s t : State} {calls : List Step} {answers : List Answer} → Chain s calls answers t → Sound s → AllByRecursion P (runs s calls) → P answers
all_runs P end sound all = all.0
all_runs P {s = s} (link {t = t} {call = call} {calls = calls} {answer = a} takes chain) sound all =
    let each = all-gathered P (λ o. continued o (λ u. runs u calls)) (outcomes s call) all in
    let here = listed (λ o. AllByRecursion P (continued o (λ u. runs u calls))) s takes.0 call sound each (a, t) takes.1 in
    all_runs (λ l. P (a ∷ l)) chain (sound-kept s t call a takes sound) (all-mapped P (λ l. a ∷ l) (runs t calls) here)

-- where all runs have the same answers
pub surely : (s : State) (calls : List Step) (answers : List Answer) (n : ℕ) → Sound s → runs s calls ≡ replicate n answers → Surely s calls answers
surely s calls answers n sound same = record { only = λ others t chain. is others t chain; some = (first.1, subst (λ l. Chain s calls l first.1) (is first.0 first.1 first.2) first.2) }
  where
    is : (others : List Answer) (t : State) → Chain s calls others t → others ≡ answers
    is others t chain = all_runs (λ l. l ≡ answers) chain sound (subst (AllByRecursion (λ l. l ≡ answers)) (sym same) (all_alike (λ l. l ≡ answers) n answers refl))

    first : (others : List Answer) × (t : State) × Chain s calls others t
    first = lists_answered s calls sound

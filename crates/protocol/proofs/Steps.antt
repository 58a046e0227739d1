-- One move of the machine: whom it changes, what it does to the words that boards owe the memory, and who owns the cell
-- after it. A board owes the memory the words of its write backs in flight and then that of its dirty entry, oldest first.
use Rattle.std.proofs.Common.{◌≡◌, ℕ, cond, eqb, ◌⊎◌, List, [], ◌∷◌, ◌++◌, Option, sym, refl, ap, ◌∙◌, subst, ap₂, subst₂, inl, inr, arith}
use Rattle.std.proofs.lemmas.List.{append-nil}
use Rattle.std.proofs.lemmas.Bool.{cases_eq, eq-eqb, ne_eqb, cond-true, cond-false}
use Rattle.model.specs.declared.entry.Entry.{Entry}
use Rattle.protocol.specs.Machine.{Cell, Move, reads, writes, acquires, releases, writes_back, completes, ejects, rests}
use Rattle.protocol.specs.Machine.{newest, read_word, after_read, after_acquire, sent, later, cleaned, Becomes, Guard, Effect, Moves}
use Rattle.protocol.specs.Runs.{Opening, owning}
use Rattle.protocol.specs.Rules.{GuardedMovesHappen}

-- ── a move happens ──

abbrev pub become : {b : ℕ} {e : Entry} {ws : List ℕ} {o : Option ℕ} {m : ℕ} (s : Cell) → (t : Cell) × Becomes s t b e ws o m
become {b} {e} {ws} {o} {m} s = (
  record { entry = λ p. cond (eqb p b) e (s.entry p); flight = λ p. cond (eqb p b) ws (s.flight p); owner = o; memory = m },
  record {
    own_entry = cond-true (eqb b b) e (s.entry b) (eq-eqb b b refl);
    own_flight = cond-true (eqb b b) ws (s.flight b) (eq-eqb b b refl);
    other_entries = λ p n. cond-false (eqb p b) e (s.entry p) (ne_eqb p b n);
    other_flights = λ p n. cond-false (eqb p b) ws (s.flight p) (ne_eqb p b n);
    owner = refl;
    memory = refl;
  },
)

abbrev pub takes-effect : (m : Move) (s : Cell) → (t : Cell) × Effect m s t
takes-effect (reads b w) s = become s
takes-effect (writes b w) s = become s
takes-effect (acquires b) s = become s
takes-effect (releases b) s = become s
takes-effect (writes_back b) s = become s
takes-effect (completes b w) s = become s
takes-effect (ejects b) s = become s
takes-effect rests s = (s, record { entry = λ p. refl; flight = λ p. refl; owner = refl; memory = refl })

abbrev pub after : Move → Cell → Cell
after m s = (takes-effect m s).0

pub happens : (m : Move) (s : Cell) → Guard m s → Moves m s (after m s)
happens m s g = record { guard = g; effect = (takes-effect m s).1 }

pub guarded-moves-happen : GuardedMovesHappen
guarded-moves-happen m s g = (after m s, happens m s g)

-- ── whom it changes ──

-- what holds of the board that moved, and of the others as they were, holds of all
pub each : {s t : Cell} {b : ℕ} {e : Entry} {ws : List ℕ} {o : Option ℕ} {m : ℕ} (P : ℕ → Entry → List ℕ → Type 0) → Becomes s t b e ws o m → P b e ws → ((p : ℕ) → (p ≡ b → ⊥) → P p (s.entry p) (s.flight p)) → (p : ℕ) → P p (t.entry p) (t.flight p)
each {s} {t} {b} P d here others p = go (cases_eq p b)
  where
    go : (p ≡ b) ⊎ (p ≡ b → ⊥) → P p (t.entry p) (t.flight p)
    go (inl q) = subst (λ (i : ℕ). P i (t.entry i) (t.flight i)) (sym q) (subst₂ (P b) (sym d.own_entry) (sym d.own_flight) here)
    go (inr n) = subst₂ (P p) (sym (d.other_entries p n)) (sym (d.other_flights p n)) (others p n)

pub owner-after : (m : Move) {s t : Cell} → Moves m s t → t.owner ≡ owning m s.owner
owner-after (reads b w) v = v.effect.owner
owner-after (writes b w) v = v.effect.owner
owner-after (acquires b) v = v.effect.owner
owner-after (releases b) v = v.effect.owner
owner-after (writes_back b) v = v.effect.owner
owner-after (completes b w) v = v.effect.owner
owner-after (ejects b) v = v.effect.owner
owner-after rests v = v.effect.owner

-- ── debts ──

abbrev pub owed : Entry → List ℕ → List ℕ
owed e ws = ws ++ sent e

abbrev pub owes : Cell → ℕ → List ℕ
owes s p = owed (s.entry p) (s.flight p)

-- Every move but a write and a completed write back leaves all debts and the memory as they were.
abbrev pub LeavesDebts : Move → Type 0
LeavesDebts (reads b w) = Unit {0}
LeavesDebts (writes b w) = ⊥
LeavesDebts (acquires b) = Unit {0}
LeavesDebts (releases b) = Unit {0}
LeavesDebts (writes_back b) = Unit {0}
LeavesDebts (completes b w) = ⊥
LeavesDebts (ejects b) = Unit {0}
LeavesDebts rests = Unit {0}

pub record Left (s t : Cell) : Type 0 where
  pub owes : (p : ℕ) → owes t p ≡ owes s p
  pub memory : t.memory ≡ s.memory

pub owes-here : {s t : Cell} {b : ℕ} {e : Entry} {ws : List ℕ} {o : Option ℕ} {m : ℕ} → Becomes s t b e ws o m → owes t b ≡ owed e ws
owes-here d = ap₂ owed d.own_entry d.own_flight

pub owes-there : {s t : Cell} {b : ℕ} {e : Entry} {ws : List ℕ} {o : Option ℕ} {m : ℕ} → Becomes s t b e ws o m → (p : ℕ) → (p ≡ b → ⊥) → owes t p ≡ owes s p
owes-there d p n = ap₂ owed (d.other_entries p n) (d.other_flights p n)

left : {s t : Cell} {b : ℕ} {e : Entry} {ws : List ℕ} {o : Option ℕ} → Becomes s t b e ws o s.memory → owed e ws ≡ owes s b → Left s t
left {s} d q = record { owes = each (λ p e ws. owed e ws ≡ owes s p) d q (λ p n. refl); memory = d.memory }

read-owed : (e : Entry) (w : ℕ) → sent (after_read e w) ≡ sent e
read-owed Entry.Invalid w = refl
read-owed (Entry.Clean v) w = refl
read-owed (Entry.Dirty v) w = refl

acquire-owed : (e : Entry) → sent (after_acquire e) ≡ sent e
acquire-owed Entry.Invalid = refl
acquire-owed (Entry.Clean v) = refl
acquire-owed (Entry.Dirty v) = refl

clean-sends : (e : Entry) → sent (cleaned e) ≡ []
clean-sends Entry.Invalid = refl
clean-sends (Entry.Clean v) = refl
clean-sends (Entry.Dirty v) = refl

pub debts-left : (m : Move) → LeavesDebts m → {s t : Cell} → Moves m s t → Left s t
debts-left (reads b w) k {s} v = left v.effect (ap (λ ws. s.flight b ++ ws) (read-owed (s.entry b) w))
debts-left (writes b w) k v = absurd k
debts-left (acquires b) k {s} v = left v.effect (ap (λ ws. s.flight b ++ ws) (acquire-owed (s.entry b)))
debts-left (releases b) k v = left v.effect refl
debts-left (writes_back b) k {s} v = left v.effect (ap (λ ws. owes s b ++ ws) (clean-sends (s.entry b)) ∙ append-nil (owes s b))
debts-left (completes b w) k v = absurd k
debts-left (ejects b) k {s} v = left v.effect (append-nil (owes s b))
debts-left rests k v = record { owes = λ p. ap₂ owed (v.effect.entry p) (v.effect.flight p); memory = v.effect.memory }

-- a completed write back pays the oldest word
pub completed : {b w : ℕ} {s t : Cell} → Moves (completes b w) s t → owes s b ≡ w ∷ owed (s.entry b) (later (s.flight b))
completed {b} {w} {s} v = subst (λ ws. owed (s.entry b) ws ≡ w ∷ owed (s.entry b) (later ws)) (sym v.guard.1) refl

pub some-owed : {w : ℕ} {ws : List ℕ} → w ∷ ws ≡ [] → ⊥
some-owed q = let z : ◌≡◌ {A = ℕ} 0 1 = cc in omega arith

pub one-owed : (ws : List ℕ) (w : ℕ) → ws ++ w ∷ [] ≡ [] → ⊥
one-owed [] w q = some-owed q
one-owed (v ∷ ws) w q = some-owed q

-- nobody owes at the opening, and nobody releases who owes
pub opening-settled : {start : ℕ} {s : Cell} → Opening start s → (p : ℕ) → owes s p ≡ []
opening-settled o p = ap₂ owed (o.entry p) (o.flight p)

pub release-settled : {b : ℕ} {s t : Cell} → Moves (releases b) s t → owes s b ≡ []
release-settled v = ap₂ (λ ws vs. ws ++ vs) v.guard.2 v.guard.1

-- a board that owes nothing goes on owing nothing, until it writes
pub settled-after : (m : Move) (b : ℕ) → ((w : ℕ) → m ≡ writes b w → ⊥) → {s t : Cell} → Moves m s t → owes s b ≡ [] → owes t b ≡ []
settled-after (reads p w) b other v none = (debts-left (reads p w) tt v).owes b ∙ none
settled-after (writes p w) b other v none = owes-there v.effect b (λ q. other w (ap (λ i. writes i w) (sym q))) ∙ none
settled-after (acquires p) b other v none = (debts-left (acquires p) tt v).owes b ∙ none
settled-after (releases p) b other v none = (debts-left (releases p) tt v).owes b ∙ none
settled-after (writes_back p) b other v none = (debts-left (writes_back p) tt v).owes b ∙ none
settled-after (completes p w) b other {s} v none = owes-there v.effect b (λ q. some-owed (sym (completed v) ∙ ap (owes s) (sym q) ∙ none)) ∙ none
settled-after (ejects p) b other v none = (debts-left (ejects p) tt v).owes b ∙ none
settled-after rests b other v none = (debts-left rests tt v).owes b ∙ none

-- ── what a read finds ──

pub newest-end : (ws : List ℕ) (v m : ℕ) → newest (ws ++ v ∷ []) m ≡ v
newest-end [] v m = refl
newest-end (w ∷ ws) v m = newest-end ws v w

-- P holds of the word of the entry, if that is clean
abbrev pub OnClean : (P : ℕ → Type 0) → Entry → Type 0
OnClean P Entry.Invalid = Unit {0}
OnClean P (Entry.Clean v) = P v
OnClean P (Entry.Dirty v) = Unit {0}

module _ (P : ℕ → Type 0) where
  -- a read finds the clean entry's word, or else the newest word that the board owes, or the memory's if it owes none
  pub found : (e : Entry) (ws : List ℕ) (m : ℕ) → OnClean P e → P (newest (owed e ws) m) → P (read_word e ws m)
  found Entry.Invalid ws m k l = subst P (ap (λ z. newest z m) (append-nil ws)) l
  found (Entry.Clean v) ws m k l = k
  found (Entry.Dirty v) ws m k l = subst P (newest-end ws v m) l

  pub clean-read : (e : Entry) (w : ℕ) → P w → OnClean P e → OnClean P (after_read e w)
  clean-read Entry.Invalid w l k = l
  clean-read (Entry.Clean v) w l k = k
  clean-read (Entry.Dirty v) w l k = tt

  pub clean-acquire : (e : Entry) → OnClean P (after_acquire e)
  clean-acquire Entry.Invalid = tt
  clean-acquire (Entry.Clean v) = tt
  clean-acquire (Entry.Dirty v) = tt

  pub clean_back : (e : Entry) (ws : List ℕ) (m : ℕ) → P (newest (owed e ws) m) → OnClean P e → OnClean P (cleaned e)
  clean_back Entry.Invalid ws m l k = tt
  clean_back (Entry.Clean v) ws m l k = k
  clean_back (Entry.Dirty v) ws m l k = subst P (newest-end ws v m) l

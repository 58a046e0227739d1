-- From one read, write, acquire or release of a cell to the next: what holds after it, if the moves and events between them
-- do not end it.
use Rattle.std.proofs.Common.{◌≡◌, ℕ, ◌⊎◌, List, [], ◌∷◌, sym, refl, ◌∙◌, subst, inl, inr, arith}
use Rattle.model.specs.declared.event.Event.{Event}
use Rattle.order.specs.Order.{more}
use Rattle.protocol.specs.Machine.{Cell, Move, reads, writes, acquires, releases, writes_back, completes, ejects, rests, Moves}
use Rattle.protocol.specs.Runs.{Opening, noting, Run, opens, makes, elsewhere, touching, touches}

-- a move that is no read, write, acquire or release
abbrev pub Quiet : Move → Type 0
Quiet (reads b w) = ⊥
Quiet (writes b w) = ⊥
Quiet (acquires b) = ⊥
Quiet (releases b) = ⊥
Quiet (writes_back b) = Unit {0}
Quiet (completes b w) = Unit {0}
Quiet (ejects b) = Unit {0}
Quiet rests = Unit {0}

-- what no quiet move and no event of another cell ends
pub record Steady (c : ℕ) (Q : List Event → Cell → Type 0) : Type 0 where
  pub quiet : (h : List Event) (m : Move) (s t : Cell) → Quiet m → Moves m s t → Q h s → Q h t
  pub far : (h : List Event) (e : Event) (s : Cell) → (e.cell ≡ c → ⊥) → Q h s → Q (more h e) s

-- Q holds whenever these are the reads, writes, acquires and releases so far
abbrev pub Whenever : (c start : ℕ) (ts : List Move) (Q : List Event → Cell → Type 0) → Type 0
Whenever c start ts Q = (h : List Event) (ms : List Move) (s : Cell) → Run c start h ms s → touches ms ≡ ts → Q h s

record Passed (c : ℕ) (m : Move) (ts : List Move) : Type 0 where
  is_quiet : Quiet m
  same : touching m ts ≡ ts
  noted : (h : List Event) → noting c m h ≡ h

passed : (c : ℕ) (m : Move) (ts : List Move) → Passed c m ts ⊎ (touching m ts ≡ m ∷ ts)
passed c (reads b w) ts = inr refl
passed c (writes b w) ts = inr refl
passed c (acquires b) ts = inr refl
passed c (releases b) ts = inr refl
passed c (writes_back b) ts = inl (record { is_quiet = tt; same = refl; noted = λ h. refl })
passed c (completes b w) ts = inl (record { is_quiet = tt; same = refl; noted = λ h. refl })
passed c (ejects b) ts = inl (record { is_quiet = tt; same = refl; noted = λ h. refl })
passed c rests ts = inl (record { is_quiet = tt; same = refl; noted = λ h. refl })

head-same : {m n : Move} {ms ns : List Move} → m ∷ ms ≡ n ∷ ns → m ≡ n
head-same q = cc

tail-same : {m n : Move} {ms ns : List Move} → m ∷ ms ≡ n ∷ ns → ms ≡ ns
tail-same q = cc

no_move : {m : Move} {ms : List Move} → m ∷ ms ≡ [] → ⊥
no_move q = let z : ◌≡◌ {A = ℕ} 0 1 = cc in omega arith

module _ (c start : ℕ) (Q : List Event → Cell → Type 0) (steady : Steady c Q) where
  -- Q holds if it holds at the opening, where that is meant, and right after the last move that is not quiet
  follow : (ts : List Move) → ((s : Cell) → Opening start s → [] ≡ ts → Q [] s) → ((h : List Event) (ms : List Move) (m : Move) (s t : Cell) → Run c start h ms s → Moves m s t → m ∷ touches ms ≡ ts → Q (noting c m h) t) → Whenever c start ts Q
  follow ts first loud h ms s (opens o) e = first s o e
  follow ts first loud h' ms' t (makes {h} {ms} {s} m r v) e = go (passed c m (touches ms)) (λ q. follow ts first loud h ms s r q)
    where
      go : Passed c m (touches ms) ⊎ (touching m (touches ms) ≡ m ∷ touches ms) → (touches ms ≡ ts → Q h s) → Q (noting c m h) t
      go (inl k) before = subst (λ i. Q i t) (sym (k.noted h)) (steady.quiet h m s t k.is_quiet v (before (sym k.same ∙ e)))
      go (inr k) before = loud h ms m s t r v (sym k ∙ e)
  follow ts first loud h' ms' t (elsewhere {h} {ms} {s} g apart r v) e = steady.far h g t apart (steady.quiet h rests s t tt v (follow ts first loud h ms s r e))

  pub at_first : ((s : Cell) → Opening start s → Q [] s) → Whenever c start [] Q
  at_first first = follow [] (λ s o e. first s o) (λ h ms m s t r v e. absurd (no_move e))

  pub after_next : (P : List Event → Cell → Type 0) (n : Move) (ts : List Move) → ((h : List Event) (s t : Cell) → Moves n s t → P h s → Q (noting c n h) t) → Whenever c start ts P → Whenever c start (n ∷ ts) Q
  after_next P n ts step prior = follow (n ∷ ts) (λ s o e. absurd (no_move (sym e))) then
    where
      then : (h : List Event) (ms : List Move) (m : Move) (s t : Cell) → Run c start h ms s → Moves m s t → m ∷ touches ms ≡ n ∷ ts → Q (noting c m h) t
      then h ms m s t r v e = let q = head-same e in subst (λ i. Q (noting c i h) t) (sym q) (step h s t (subst (λ i. Moves i s t) q v) (prior h ms s r (tail-same e)))

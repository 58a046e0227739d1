-- Laws of `overlay`: what a cell reads, and what one more write makes of it.
use Rattle.std.proofs.Common.{◌≡◌, ℕ, zero, suc, ◌%◌, ◌<◌, true, ◌≢◌, List, length, get_or, set, replicate, Some, None, Ok, Option, unwrap_or, sym, refl, ◌∙◌, subst, arith}
use Rattle.std.proofs.lemmas.Grind.{common_steps}
use Rattle.std.proofs.lemmas.List.{ext_get_or}
use Rattle.std.proofs.lemmas.List.FromFn.{length-map-range_with_len, get_or-map-range_with_len}
use Rattle.home.specs.declared.pair.Pair.{Pair}
use Rattle.home.specs.Words.{read_at}
use Rattle.home.specs.Buffer.{own, held_for, overlay, sent, pair_of}
use Rattle.home.proofs.Answers.{read-in}

pub overlay-length : (ws : List ℕ) (ps : List (Option Pair)) → length (overlay ws ps) ≡ length ws
unfolding overlay
overlay-length ws ps = length-map-range_with_len (λ c. unwrap_or (held_for (get_or ps (c % 8) None) c) (get_or ws c 0)) 0 (length ws)

pub overlay-at : (ws : List ℕ) (ps : List (Option Pair)) (c : ℕ) → c < length ws → get_or (overlay ws ps) c 0 ≡ unwrap_or (held_for (get_or ps (c % 8) None) c) (get_or ws c 0)
unfolding overlay
overlay-at ws ps c h = get_or-map-range_with_len (λ c. unwrap_or (held_for (get_or ps (c % 8) None) c) (get_or ws c 0)) 0 (length ws) c c 0 h (omega arith)

-- where no place holds anything
pub overlay-none : (ws : List ℕ) (ps : List (Option Pair)) → ((i : ℕ) → get_or ps i None ≡ None) → overlay ws ps ≡ ws
overlay-none ws ps none =
    ext_get_or 0 (overlay ws ps) ws (overlay-length ws ps)
    (λ k h.
    let k-in : k < length ws = subst (λ n. k < n) (overlay-length ws ps) h in
    overlay-at ws ps k k-in ∙ rw (none (k % 8)))

pub get_or-nones : (n : ℕ) (i : ℕ) → get_or {A = Option Pair} (replicate n None) i None ≡ None
get_or-nones zero i = refl
get_or-nones (suc n) zero = refl
get_or-nones (suc n) (suc i) = get_or-nones n i

pub overlay_nones : (ws : List ℕ) → overlay ws (replicate 8 None) ≡ ws
overlay_nones ws = overlay-none ws (replicate 8 None) (get_or-nones 8)

module _ (ws : List ℕ) (ps : List (Option Pair)) (c : ℕ) (inside : c < length ws) where
  inside-overlay : c < length (overlay ws ps)
  inside-overlay = subst (λ n. c < n) (sym (overlay-length ws ps)) inside

  pub read_held : (w : ℕ) → held_for (get_or ps (c % 8) None) c ≡ Some w → Ok w ≡ read_at (overlay ws ps) c
  read_held w e = read-in (overlay ws ps) c w inside-overlay (overlay-at ws ps c inside ∙ rw e)

  pub read_below : held_for (get_or ps (c % 8) None) c ≡ None → read_at ws c ≡ read_at (overlay ws ps) c
  read_below e =
      sym (read-in ws c (get_or ws c 0) inside refl) ∙ read-in (overlay ws ps) c (get_or ws c 0) inside-overlay (overlay-at ws ps c inside ∙ rw e)

-- what is sent below

sent-length : (ws : List ℕ) (o : Option Pair) (c : ℕ) → length (sent ws o c) ≡ length ws
sent-length ws (Some p) c = grind (arith, common_steps)
sent-length ws None c = refl

-- a cell of another place keeps its word below
sent-apart : (ws : List ℕ) (o : Option Pair) (c k : ℕ) → own (c % 8) o ≡ true → k % 8 ≢ c % 8 → get_or (sent ws o c) k 0 ≡ get_or ws k 0
sent-apart ws None c k e ne = refl
sent-apart ws (Some p) c k e ne = grind (arith, common_steps)

-- another cell of the same place has below what it had in the overlay
sent-same : (ws : List ℕ) (o : Option Pair) (c k : ℕ) → k < length ws → k ≢ c → get_or (sent ws o c) k 0 ≡ unwrap_or (held_for o k) (get_or ws k 0)
sent-same ws None c k h ne = refl
sent-same ws (Some p) c k h ne = grind (arith, common_steps)

module _ (ws : List ℕ) (ps : List (Option Pair)) (c w : ℕ) (inside : c < length ws) (eight : length ps ≡ 8) (mine : own (c % 8) (get_or ps (c % 8) None) ≡ true) where
  abbrev below : List ℕ
  below = sent ws (get_or ps (c % 8) None) c

  abbrev held : List (Option Pair)
  held = set ps (c % 8) (Some (pair_of c w))

  reads : (k : ℕ) → k < length ws → unwrap_or (held_for (get_or held (k % 8) None) k) (get_or below k 0) ≡ get_or (set (overlay ws ps) c w) k 0
  reads k h = grind (arith, common_steps, overlay-length, overlay-at, sent-same, sent-apart)

  pub overlay-put : overlay below held ≡ set (overlay ws ps) c w
  overlay-put =
      ext_get_or 0 (overlay below held) (set (overlay ws ps) c w)
      (grind (arith, common_steps, overlay-length, sent-length))
      (λ k h. grind (arith, common_steps, overlay-length, overlay-at, sent-length, reads k))

pub ruleset overlays = (overlay-length, overlay-at, overlay_nones, overlay-put)

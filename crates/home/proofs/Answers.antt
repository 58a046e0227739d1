-- What a source answers inside its cells, a write as a `set`, and what is read after it.
use Rattle.std.proofs.Common.{◌≡◌, ℕ, ◌<◌, ◌≤◌, cond, ltb, List, length, get_or, set, Ok, Err, sym, ap, ◌∙◌, ⊎_elim}
use Rattle.std.proofs.lemmas.List.{length-set, get_or-set_same, get_or-set_other, set_past}
use Rattle.std.proofs.lemmas.Bool.{cond-true, cond-false, lt-ltb, le-ltb, cases_lt}
use Rattle.model.specs.declared.refusal.Refusal.TheVariants.{NoSuchCell}
use Rattle.home.specs.Words.{read_at, written, read_back, OthersKept}

pub read-in : (ws : List ℕ) (c w : ℕ) → c < length ws → get_or ws c 0 ≡ w → Ok w ≡ read_at ws c
read-in ws c w h e = sym (cond-true (ltb c (length ws)) (Ok (get_or ws c 0)) (Err NoSuchCell) (lt-ltb c (length ws) h) ∙ ap Ok e)

-- past the end `set` changes nothing either
pub written-set : (ws : List ℕ) (c w : ℕ) → written ws c w ≡ set ws c w
written-set ws c w =
    ⊎_elim
    (λ (h : c < length ws). cond-true (ltb c (length ws)) (set ws c w) ws (lt-ltb c (length ws) h))
    (λ (h : length ws ≤ c). cond-false (ltb c (length ws)) (set ws c w) ws (le-ltb c (length ws) h) ∙ sym (set_past ws c w h))
    (cases_lt c (length ws))

pub written-length : (ws : List ℕ) (c w : ℕ) → length (written ws c w) ≡ length ws
written-length ws c w = ap length (written-set ws c w) ∙ length-set ws c w

pub written_back : (ws : List ℕ) (c w : ℕ) → read_at (written ws c w) c ≡ read_back ws c w
written_back ws c w =
    ap (λ n. cond (ltb c n) (Ok (get_or (written ws c w) c 0)) (Err NoSuchCell)) (written-length ws c w)
    ∙ ⊎_elim
    (λ (h : c < length ws). ap (λ v. cond (ltb c (length ws)) (Ok v) (Err NoSuchCell)) (ap (λ l. get_or l c 0) (written-set ws c w) ∙ get_or-set_same ws c w 0 h))
    (λ (h : length ws ≤ c).
    cond-false (ltb c (length ws)) (Ok (get_or (written ws c w) c 0)) (Err NoSuchCell) (le-ltb c (length ws) h)
    ∙ sym (cond-false (ltb c (length ws)) (Ok w) (Err NoSuchCell) (le-ltb c (length ws) h)))
    (cases_lt c (length ws))

pub written-others : (ws : List ℕ) (c w : ℕ) → OthersKept ws (written ws c w) c
written-others ws c w k ne =
    ap (λ n. cond (ltb k n) (Ok (get_or (written ws c w) k 0)) (Err NoSuchCell)) (written-length ws c w)
    ∙ ap (λ v. cond (ltb k (length ws)) (Ok v) (Err NoSuchCell)) (ap (λ l. get_or l k 0) (written-set ws c w) ∙ get_or-set_other ws c k w 0 ne)

-- The views of a cell say which writes are in sight and which are overwritten; so the test of readable decides it.
use Rattle.std.proofs.Common.{◌≡◌, ℕ, zero, suc, ◌+◌, ◌<◌, ◌≤◌, max, Bool, true, false, cond, ◌&&◌, ◌||◌, eqb, ltb, leb, ◌⊎◌, List, [], ◌∷◌, length, get_or, set, Some, None, Decides, Option, sym, refl, ap, ◌∙◌, subst, inl, inr, arith}
use native.Mathlib.Decide.{ℕ_discrete}
use Rattle.std.proofs.lemmas.List.{length-set, get_or-replicate, get_or-set_same, get_or-set_other}
use Rattle.std.proofs.lemmas.Bool.{true≢false, cases_Bool, ltb-true, lt-ltb, le-ltb, eqb-true, eqb-false, eq-eqb, cond-true, cond-false, and_parts, and_from, leb-true, le-leb, cases_lt}
use Rattle.std.proofs.lemmas.Bool.Decides.{nat_tests, Decides-like, Decides-at, Decides-or}
use Rattle.model.specs.declared.event.Action.{Action}
use Rattle.model.specs.declared.event.Event.{Event}
use Rattle.order.specs.declared.view.View.{View}
use Rattle.order.specs.declared.view.Views.{Views}
use Rattle.order.specs.Order.{event_at, At, next, more, By, WriteOf, Point, initial_write, initial_release, event, numbered, Directly, initial, same_board, acquire, Before, link, chain, no_release, IsWrite, Known, Readable}
use Rattle.order.specs.Test.{later, blank, initially, view_of, writing, joining, putting, viewing, passing, views_from, views, writer_by, writer_in, writer_of, bounds, current, readable, on_boards, ReadableDecided}
use Rattle.order.specs.Laws.{Within}
use Rattle.order.proofs.History.{none-not-some, nothing-not-some, some_same, write-not-release, acquire-not-release, at-within, at-inv, next_more, by-events}
use Rattle.order.proofs.Growth.{Published, new-not-within, known-new, known_on, known-own}
use Rattle.order.proofs.Sight.{Over, over-known, over-either, Same, over_same, same_else, same_release, same_acquire, same_published, same_releasing, known_write, over_write, over_new}

-- ── the writer of a write ──

pub record Made (h : List Event) (c n p : ℕ) : Type 0 where
  pub event : Event
  pub word : ℕ
  pub stands : At h n event
  pub write : WriteOf c word event
  pub board : event.board ≡ p

pub writer-made : (h : List Event) (c n p : ℕ) → writer_of h c (suc n) ≡ Some p → Made h c (suc n) p
writer-made h c n p q = found (event_at h (suc n)) refl q
  where
    by : (e : Event) → At h (suc n) e → e.cell ≡ c → (a : Action) → e.action ≡ a → writer_by a e.board ≡ Some p → Made h c (suc n) p
    by e s i (Action.Write w) a r = record { event = e; word = w; stands = s; write = (i, a); board = some_same r }
    by e s i Action.Acquire a r = absurd (nothing-not-some r)
    by e s i Action.Release a r = absurd (nothing-not-some r)

    on : (e : Event) → At h (suc n) e → writer_in c (Some e) ≡ Some p → (eqb e.cell c ≡ true) ⊎ (eqb e.cell c ≡ false) → Made h c (suc n) p
    on e s r (inl t) = by e s (eqb-true e.cell c t) e.action refl (sym (cond-true (eqb e.cell c) (writer_by e.action e.board) None t) ∙ r)
    on e s r (inr t) = absurd (nothing-not-some (sym (cond-false (eqb e.cell c) (writer_by e.action e.board) None t) ∙ r))

    found : (o : Option Event) → event_at h (suc n) ≡ o → writer_in c o ≡ Some p → Made h c (suc n) p
    found None s r = absurd (nothing-not-some r)
    found (Some e) s r = on e s r (cases_Bool (eqb e.cell c))

pub made-writer : (h : List Event) (c n p : ℕ) → Made h c n p → writer_of h c n ≡ Some p
made-writer h c zero p m = let w = at-within h 0 m.event m.stands in absurd (omega arith)
made-writer h c (suc n) p m =
    ap (writer_in c) m.stands
    ∙ cond-true (eqb m.event.cell c) (writer_by m.event.action m.event.board) None (eq-eqb m.event.cell c m.write.0)
    ∙ ap (λ (a : Action). writer_by a m.event.board) m.write.1
    ∙ ap {B = Option ℕ} Some m.board

pub writer-write : (h : List Event) (c n p : ℕ) → writer_of h c n ≡ Some p → IsWrite h c (numbered n)
writer-write h c zero p q = tt
writer-write h c (suc n) p q = let m = writer-made h c n p q in (m.event, m.word, m.stands, m.write)

pub write-writer : (h : List Event) (c n : ℕ) → IsWrite h c (numbered n) → (p : ℕ) × (writer_of h c n ≡ Some p)
write-writer h c zero w = (8, refl)
write-writer h c (suc n) w = (w.0.board, made-writer h c (suc n) w.0.board (record { event = w.0; word = w.1; stands = w.2; write = w.3; board = refl }))

-- with one more event: an old write, or the new event
pub writer-inv : (h : List Event) (g : Event) (c n p : ℕ) → writer_of (more h g) c n ≡ Some p → (writer_of h c n ≡ Some p) ⊎ ((n ≡ next h) × ((w : ℕ) × (WriteOf c w g × (g.board ≡ p))))
writer-inv h g c zero p q = inl q
writer-inv h g c (suc n) p q = go (writer-made (more h g) c n p q)
  where
    go : Made (more h g) c (suc n) p → (writer_of h c (suc n) ≡ Some p) ⊎ ((suc n ≡ next h) × ((w : ℕ) × (WriteOf c w g × (g.board ≡ p))))
    go m = on (at-inv h g (suc n) m.event m.stands)
      where
        on : At h (suc n) m.event ⊎ ((suc n ≡ next h) × (g ≡ m.event)) → (writer_of h c (suc n) ≡ Some p) ⊎ ((suc n ≡ next h) × ((w : ℕ) × (WriteOf c w g × (g.board ≡ p))))
        on (inl a) = inl (made-writer h c (suc n) p (record { event = m.event; word = m.word; stands = a; write = m.write; board = m.board }))
        on (inr (i, e)) = inr (i, (m.word, (subst (WriteOf c m.word) (sym e) m.write, ap (λ (f : Event). f.board) e ∙ m.board)))

pub writer-within : (h : List Event) (c n p : ℕ) → writer_of h c n ≡ Some p → n < next h
writer-within h c zero p q = omega arith
writer-within h c (suc n) p q = let m = writer-made h c n p q in (at-within h (suc n) m.event m.stands).1

numbered_within : (h : List Event) (n : ℕ) → n < next h → Within h (numbered n)
numbered_within h zero l = tt
numbered_within h (suc n) l = l

numbered-new : (h : List Event) (n : ℕ) → n ≡ next h → numbered n ≡ event (next h)
numbered-new h n p = ap numbered p

-- ── the greater of two bounds ──

pub get_or-later : (ms ns : List ℕ) (p : ℕ) → get_or (later ms ns) p 0 ≡ max (get_or ms p 0) (get_or ns p 0)
get_or-later [] ns p = omega arith
get_or-later (m ∷ ms) [] p = omega arith
get_or-later (m ∷ ms) (n ∷ ns) zero = refl
get_or-later (m ∷ ms) (n ∷ ns) (suc p) = get_or-later ms ns p

pub length-later : (ms ns : List ℕ) → length (later ms ns) ≡ max (length ms) (length ns)
length-later [] ns = omega arith
length-later (m ∷ ms) [] = omega arith
length-later (m ∷ ms) (n ∷ ns) = omega (arith, length-later ms ns)

ltb-max : (n a b : ℕ) → ltb n (max a b) ≡ (ltb n a || ltb n b)
ltb-max n a b = grind (arith, nat_tests)

-- ── views that are right ──

-- The view v says which writes the sight V has, and which of them it has a write after.
pub record Shows (h : List Event) (c : ℕ) (V : Point → Type 0) (v : View) : Type 0 where
  pub known : (n p : ℕ) → writer_of h c n ≡ Some p → Decides (ltb n (get_or v.known p 0)) (V (numbered n))
  pub over : (n p : ℕ) → writer_of h c n ≡ Some p → Decides (ltb n (get_or v.over p 0)) (Over h c V (numbered n))
  pub known_low : (p : ℕ) → get_or v.known p 0 ≤ next h
  pub over_low : (p : ℕ) → get_or v.over p 0 ≤ next h
  pub known_nine : length v.known ≡ 9
  pub over_nine : length v.over ≡ 9

pub record Right (h : List Event) (c : ℕ) (t : Views) : Type 0 where
  pub boards : (b : ℕ) → b < 8 → Shows h c (Known h c b) (view_of t b)
  pub released : Shows h c (Published h c) t.released
  pub eight : length t.boards ≡ 8

never : {P : Type 0} (n m : ℕ) → m ≤ n → (P → ⊥) → Decides (ltb n m) P
never n m low none = (λ t. absurd (true≢false (sym t ∙ le-ltb n m low)), λ p. absurd (none p))

always : {P : Type 0} (n m : ℕ) → n < m → P → Decides (ltb n m) P
always n m low p = (λ t. p, λ q. lt-ltb n m low)

shows-join : {h : List Event} {c : ℕ} {V U : Point → Type 0} {v u : View} → Shows h c V v → Shows h c U u → Shows h c (λ y. V y ⊎ U y) (joining v u)
shows-join {h} {c} {V} {U} {v} {u} r s = record {
  known = λ n p q. Decides-at (ltb n (get_or (later v.known u.known) p 0)) (ltb n (get_or v.known p 0) || ltb n (get_or u.known p 0)) (either n p v.known u.known) (Decides-or (ltb n (get_or v.known p 0)) (ltb n (get_or u.known p 0)) (r.known n p q) (s.known n p q));
  over = λ n p q. let e = over-either {h = h} {c = c} {x = numbered n} V U in Decides-at (ltb n (get_or (later v.over u.over) p 0)) (ltb n (get_or v.over p 0) || ltb n (get_or u.over p 0)) (either n p v.over u.over) (Decides-like (ltb n (get_or v.over p 0) || ltb n (get_or u.over p 0)) e.1 e.0 (Decides-or (ltb n (get_or v.over p 0)) (ltb n (get_or u.over p 0)) (r.over n p q) (s.over n p q)));
  known_low = λ p. omega (arith, get_or-later v.known u.known p, r.known_low p, s.known_low p);
  over_low = λ p. omega (arith, get_or-later v.over u.over p, r.over_low p, s.over_low p);
  known_nine = omega (arith, length-later v.known u.known, r.known_nine, s.known_nine);
  over_nine = omega (arith, length-later v.over u.over, r.over_nine, s.over_nine);
}
  where
    either : (n p : ℕ) (ms ns : List ℕ) → ltb n (get_or (later ms ns) p 0) ≡ (ltb n (get_or ms p 0) || ltb n (get_or ns p 0))
    either n p ms ns = ap (ltb n) (get_or-later ms ns p) ∙ ltb-max n (get_or ms p 0) (get_or ns p 0)

module _ (h : List Event) (g : Event) (c : ℕ) where
  -- a view stands as long as its sight has the same writes
  shows_same : {V W : Point → Type 0} {v : View} → Same h g c V W → Shows h c V v → Shows (more h g) c W v
  shows_same {V} {W} {v} s r = record {
    known = λ n p q. known n p q (writer-inv h g c n p q);
    over = λ n p q. over n p (writer-inv h g c n p q);
    known_low = λ p. omega (arith, next_more h g, r.known_low p);
    over_low = λ p. omega (arith, next_more h g, r.over_low p);
    known_nine = r.known_nine;
    over_nine = r.over_nine;
  }
    where
      known : (n p : ℕ) → writer_of (more h g) c n ≡ Some p → (writer_of h c n ≡ Some p) ⊎ ((n ≡ next h) × ((w : ℕ) × (WriteOf c w g × (g.board ≡ p)))) → Decides (ltb n (get_or v.known p 0)) (W (numbered n))
      known n p q (inl o) = Decides-like (ltb n (get_or v.known p 0)) (s.up (numbered n)) (s.down (numbered n) (writer-write (more h g) c n p q)) (r.known n p o)
      known n p q (inr (e, i)) = never n (get_or v.known p 0) (omega (arith, r.known_low p)) (λ w. new-not-within h (numbered-new h n e) (s.within (numbered n) (s.down (numbered n) (writer-write (more h g) c n p q) w)))

      over : (n p : ℕ) → (writer_of h c n ≡ Some p) ⊎ ((n ≡ next h) × ((w : ℕ) × (WriteOf c w g × (g.board ≡ p)))) → Decides (ltb n (get_or v.over p 0)) (Over (more h g) c W (numbered n))
      over n p (inl o) = let e = over_same h g c {x = numbered n} s in Decides-like (ltb n (get_or v.over p 0)) e.1 e.0 (r.over n p o)
      over n p (inr (e, i)) = never n (get_or v.over p 0) (omega (arith, r.over_low p)) (λ o. over_new h g c (subst (Over (more h g) c W) (numbered-new h n e) o))

  -- a write by b: what was known is overwritten, and the new write is known
  shows-write : (b v : ℕ) {i : View} → b < 8 → By c b g → g.action ≡ Action.Write v → Shows h c (Known h c b) i → Shows (more h g) c (Known (more h g) c b) (writing b (next h) i)
  shows-write b v {i} small mine a r = record {
    known = λ n p q. known n p (ℕ_discrete p b) (writer-inv h g c n p q);
    over = λ n p q. over n p (writer-inv h g c n p q);
    known_low = λ p. low p (ℕ_discrete p b);
    over_low = λ p. omega (arith, next_more h g, r.known_low p);
    known_nine = length-set i.known b (suc (next h)) ∙ r.known_nine;
    over_nine = r.known_nine;
  }
    where
      here : get_or (set i.known b (suc (next h))) b 0 ≡ suc (next h)
      here = get_or-set_same i.known b (suc (next h)) 0 (omega (arith, r.known_nine))

      there : (p : ℕ) → (p ≡ b → ⊥) → get_or (set i.known b (suc (next h))) p 0 ≡ get_or i.known p 0
      there p apart = get_or-set_other i.known b p (suc (next h)) 0 apart

      low : (p : ℕ) → Dec (p ≡ b) → get_or (set i.known b (suc (next h))) p 0 ≤ next (more h g)
      low p (yes e) = subst (λ (j : ℕ). get_or (set i.known b (suc (next h))) j 0 ≤ next (more h g)) (sym e) (omega (arith, here, next_more h g))
      low p (no apart) = omega (arith, there p apart, r.known_low p, next_more h g)

      -- the board knows its own writes, old and new
      own : (n p : ℕ) → p ≡ b → (writer_of h c n ≡ Some p) ⊎ ((n ≡ next h) × ((w : ℕ) × (WriteOf c w g × (g.board ≡ p)))) → (n < suc (next h)) × Known (more h g) c b (numbered n)
      own zero p e (inl o) = let z = some_same o in absurd (omega arith)
      own (suc n) p e (inl o) =
          let m = writer-made h c n p o in
          (omega (arith, writer-within h c (suc n) p o), known_on h g c (known-own h c b (suc n) m.event m.stands (m.write.0, m.board ∙ e)))
      own n p e (inr (z, k)) = (omega arith, known-new h g c mine (inl (numbered-new h n z)))

      known : (n p : ℕ) → Dec (p ≡ b) → (writer_of h c n ≡ Some p) ⊎ ((n ≡ next h) × ((w : ℕ) × (WriteOf c w g × (g.board ≡ p)))) → Decides (ltb n (get_or (set i.known b (suc (next h))) p 0)) (Known (more h g) c b (numbered n))
      known n p (yes e) k =
          let o = own n p e k in
          let s : get_or (set i.known b (suc (next h))) p 0 ≡ suc (next h) = ap (λ j. get_or (set i.known b (suc (next h))) j 0) e ∙ here in
          always n (get_or (set i.known b (suc (next h))) p 0) (omega (arith, s, o.0)) o.1
      known n p (no apart) (inl o) =
          let e = known_write h g c b v mine a (numbered_within h n (writer-within h c n p o)) in
          Decides-at (ltb n (get_or (set i.known b (suc (next h))) p 0)) (ltb n (get_or i.known p 0)) (ap (ltb n) (there p apart)) (Decides-like (ltb n (get_or i.known p 0)) e.1 e.0 (r.known n p o))
      known n p (no apart) (inr (z, (w, (k, l)))) = absurd (apart (sym l ∙ mine.1))

      over : (n p : ℕ) → (writer_of h c n ≡ Some p) ⊎ ((n ≡ next h) × ((w : ℕ) × (WriteOf c w g × (g.board ≡ p)))) → Decides (ltb n (get_or i.known p 0)) (Over (more h g) c (Known (more h g) c b) (numbered n))
      over n p (inl o) =
          let e = over_write h g c b v mine a (numbered_within h n (writer-within h c n p o)) in
          Decides-like (ltb n (get_or i.known p 0)) e.1 e.0 (r.known n p o)
      over n p (inr (z, k)) = never n (get_or i.known p 0) (omega (arith, r.known_low p)) (λ o. over_new h g c (subst (Over (more h g) c (Known (more h g) c b)) (numbered-new h n z) o))

  -- ── one more event ──

  module _ (t : Views) (small : g.board < 8) (r : Right h c t) where
    -- the view of one board is put, and the other boards' stand
    right-put : g.cell ≡ c → (v : View) → Shows (more h g) c (Known (more h g) c g.board) v → (b : ℕ) → b < 8 → Shows (more h g) c (Known (more h g) c b) (view_of (putting g.board v t) b)
    right-put cell v shown b low = go (ℕ_discrete b g.board)
      where
        go : Dec (b ≡ g.board) → Shows (more h g) c (Known (more h g) c b) (get_or (set t.boards g.board v) b blank)
        go (yes e) = subst (λ (j : ℕ). Shows (more h g) c (Known (more h g) c j) (get_or (set t.boards g.board v) j blank)) (sym e) (subst (Shows (more h g) c (Known (more h g) c g.board)) (sym (get_or-set_same t.boards g.board v blank (omega (arith, r.eight)))) shown)
        go (no apart) = subst (Shows (more h g) c (Known (more h g) c b)) (sym (get_or-set_other t.boards g.board b v blank apart)) (shows_same (same_else h g c b (λ y. apart (sym y.1))) (r.boards b low))

    right-viewing : g.cell ≡ c → (a : Action) → g.action ≡ a → Right (more h g) c (viewing (next h) g.board a t)
    right-viewing cell (Action.Write w) a = record {
      boards = right-put cell (writing g.board (next h) (view_of t g.board)) (shows-write g.board w small (cell, refl) a (r.boards g.board small));
      released = shows_same (same_published h g c (λ y. write-not-release a y.1)) r.released;
      eight = length-set t.boards g.board (writing g.board (next h) (view_of t g.board)) ∙ r.eight;
    }
    right-viewing cell Action.Acquire a = record {
      boards = right-put cell (joining (view_of t g.board) t.released) (shows_same (same_acquire h g c g.board (cell, refl) a) (shows-join (r.boards g.board small) r.released));
      released = shows_same (same_published h g c (λ y. acquire-not-release a y.1)) r.released;
      eight = length-set t.boards g.board (joining (view_of t g.board) t.released) ∙ r.eight;
    }
    right-viewing cell Action.Release a = record { boards = λ b low. kept b low (ℕ_discrete g.board b); released = shows_same (same_releasing h g c (cell, a)) (r.boards g.board small); eight = r.eight }
      where
        kept : (b : ℕ) → b < 8 → Dec (g.board ≡ b) → Shows (more h g) c (Known (more h g) c b) (view_of t b)
        kept b low (yes e) = shows_same (same_release h g c b (cell, e) a) (r.boards b low)
        kept b low (no apart) = shows_same (same_else h g c b (λ y. apart y.1)) (r.boards b low)

    right-else : (g.cell ≡ c → ⊥) → Right (more h g) c t
    right-else far = record { boards = λ b low. shows_same (same_else h g c b (λ y. far y.0)) (r.boards b low); released = shows_same (same_published h g c (λ y. far y.0)) r.released; eight = r.eight }

    right-one : Right (more h g) c (passing c (next h) g t)
    right-one = go (cases_Bool (eqb g.cell c))
      where
        after : Views
        after = viewing (next h) g.board g.action t

        go : (eqb g.cell c ≡ true) ⊎ (eqb g.cell c ≡ false) → Right (more h g) c (cond (eqb g.cell c) after t)
        go (inl e) = subst (Right (more h g) c) (sym (cond-true (eqb g.cell c) after t e)) (right-viewing (eqb-true g.cell c e) g.action refl)
        go (inr e) = subst (Right (more h g) c) (sym (cond-false (eqb g.cell c) after t e)) (right-else (eqb-false g.cell c e))

-- ── from the start on ──

-- the walk over one more event
pub views-more : (c n : ℕ) (h : List Event) (g : Event) (t : Views) → views_from c (suc n) (more h g) t ≡ passing c (n + next h) g (views_from c (suc n) h t)
views-more c n [] g t = ap (λ k. passing c k g t) (omega arith)
views-more c n (e ∷ h) g t =
    let s = passing c (suc n) e t in
    views-more c (suc n) h g s ∙ ap (λ k. passing c k g (views_from c (suc (suc n)) h s)) (omega arith)

-- nothing is before the initial write
first-directly : {h : List Event} {c : ℕ} {x y : Point} → y ≡ initial_write → Directly h c x y → ⊥
first-directly p initial = cc
first-directly p (same_board b e a k l) = cc
first-directly p (acquire e a k l) = cc

pub none-before-first : {h : List Event} {c : ℕ} {x y : Point} → y ≡ initial_write → Before h c x y → ⊥
none-before-first p (link d) = first-directly p d
none-before-first p (chain u d) = first-directly p d

no-events : {c b : ℕ} {x : Point} → Known [] c b x → ⊥
no-events k = none-not-some k.is_latest.stands

only-first : (c : ℕ) (y : Point) → IsWrite [] c y → y ≡ initial_write
only-first c initial_write w = refl
only-first c initial_release w = absurd w
only-first c (event n) w = absurd (none-not-some w.2)

shows-start : (c : ℕ) (V : Point → Type 0) (v : View) → length v.known ≡ 9 → length v.over ≡ 9 → ((p : ℕ) → get_or v.known p 0 ≤ 1) → ((p : ℕ) → get_or v.over p 0 ≤ 0) → Decides (ltb 0 (get_or v.known 8 0)) (V initial_write) → Shows [] c V v
shows-start c V v nine over_nine low over_low first = record { known = known; over = over; known_low = λ p. omega (arith, low p); over_low = λ p. omega (arith, over_low p); known_nine = nine; over_nine = over_nine }
  where
    known : (n p : ℕ) → writer_of [] c n ≡ Some p → Decides (ltb n (get_or v.known p 0)) (V (numbered n))
    known zero p q = subst (λ (j : ℕ). Decides (ltb 0 (get_or v.known j 0)) (V initial_write)) (some_same q) first
    known (suc n) p q = absurd (nothing-not-some q)

    over : (n p : ℕ) → writer_of [] c n ≡ Some p → Decides (ltb n (get_or v.over p 0)) (Over [] c V (numbered n))
    over n p q = never n (get_or v.over p 0) (omega (arith, over_low p)) (λ o. none-before-first (only-first c o.by o.write) o.later)

-- a list of numbers none of which is above m
abbrev low : ℕ → List ℕ → Bool
low m [] = true
low m (n ∷ ns) = leb n m && low m ns

low-get_or : (m : ℕ) (ns : List ℕ) (p : ℕ) → low m ns ≡ true → get_or ns p 0 ≤ m
low-get_or m [] p l = omega arith
low-get_or m (n ∷ ns) zero l = leb-true n m (and_parts (leb n m) (low m ns) l).0
low-get_or m (n ∷ ns) (suc p) l = low-get_or m ns p (and_parts (leb n m) (low m ns) l).1

right-start : (c : ℕ) → Right [] c initially
right-start c = record {
  boards = λ b small. subst (Shows [] c (Known [] c b)) (sym (get_or-replicate 8 b blank blank small)) (shows-start c (Known [] c b) blank refl refl (λ p. low-get_or 1 blank.known p refl) (λ p. low-get_or 0 blank.over p refl) (never 0 0 (omega arith) no-events));
  released = shows-start c (Published [] c) initially.released refl refl (λ p. low-get_or 1 initially.released.known p refl) (λ p. low-get_or 0 initially.released.over p refl) (always 0 1 (omega arith) first);
  eight = refl;
}
  where
    first : Published [] c initial_write
    first = record { latest = initial_release; is_latest = no_release (λ k e p q a r. none-not-some a); up_to = inr (link initial) }

pub boards-old : (h : List Event) (g : Event) → on_boards (more h g) ≡ true → (on_boards h ≡ true) × (g.board < 8)
boards-old [] g f = (refl, ltb-true g.board 8 (and_parts (ltb g.board 8) true f).0)
boards-old (e ∷ h) g f =
    let r = and_parts (ltb e.board 8) (on_boards (more h g)) f in
    let i = boards-old h g r.1 in
    (and_from (ltb e.board 8) (on_boards h) r.0 i.0, i.1)

pub boards-more : (h : List Event) (g : Event) → on_boards h ≡ true → g.board < 8 → on_boards (more h g) ≡ true
boards-more [] g f l = and_from (ltb g.board 8) true (lt-ltb g.board 8 l) refl
boards-more (e ∷ h) g f l = let r = and_parts (ltb e.board 8) (on_boards h) f in and_from (ltb e.board 8) (on_boards (more h g)) r.0 (boards-more h g r.1 l)

pub board-at : (h : List Event) (n : ℕ) (e : Event) → on_boards h ≡ true → At h n e → e.board < 8
board-at [] n e f a = cc
board-at (g ∷ h) zero e f a = cc
board-at (g ∷ h) (suc zero) e f a = grind (arith, nat_tests)
board-at (g ∷ h) (suc (suc n)) e f a = board-at h (suc n) e (and_parts (ltb g.board 8) (on_boards h) f).1 a

pub writer-at : (h : List Event) (c n : ℕ) (e : Event) → At h n e → writer_of h c n ≡ writer_in c (Some e)
writer-at h c zero e a = let w = at-within h 0 e a in absurd (omega arith)
writer-at h c (suc n) e a = ap (writer_in c) a

-- every writer is one of nine
pub writer-low : (h : List Event) (c n p : ℕ) → on_boards h ≡ true → writer_of h c n ≡ Some p → p < 9
writer-low h c zero p f q = let z = some_same q in omega arith
writer-low h c (suc n) p f q =
    let m = writer-made h c n p q in
    let l = board-at h (suc n) m.event f m.stands in
    omega (arith, m.board)

pub right-views : (c : ℕ) (h : List Event) → on_boards h ≡ true → Right h c (views c h)
right-views c = by-events (λ h. on_boards h ≡ true → Right h c (views c h)) (λ f. right-start c) one
  where
    one : (h : List Event) (g : Event) → (on_boards h ≡ true → Right h c (views c h)) → on_boards (more h g) ≡ true → Right (more h g) c (views c (more h g))
    one h g r f =
        let i = boards-old h g f in
        let t = views c h in
        let e : passing c (0 + next h) g t ≡ passing c (next h) g t = ap (λ k. passing c k g t) (omega arith) in
        subst (Right (more h g) c) (sym (views-more c 0 h g initially ∙ e)) (right-one h g c t i.1 (r i.0))

-- ── readable ──

pub readable-tells : (h : List Event) (c b n : ℕ) → on_boards h ≡ true → b < 8 → Decides (readable h c b n) (Readable h c b (numbered n))
readable-tells h c b n f small = (there (writer_of h c n) refl, back)
  where
    r : Shows h c (Known h c b) (view_of (views c h) b)
    r = (right-views c h f).boards b small

    bound : ℕ → ℕ
    bound p = get_or (view_of (views c h) b).over p 0

    there : (o : Option ℕ) → writer_of h c n ≡ o → current (bounds h c b) n o ≡ true → Readable h c b (numbered n)
    there None q t = absurd (true≢false (sym t))
    there (Some p) q t = record {
      write = writer-write h c n p q;
      current = λ o. let l = leb-true (bound p) n t in let k = ltb-true n (bound p) ((r.over n p q).1 (over-known.1 o)) in omega arith;
    }

    back : Readable h c b (numbered n) → readable h c b n ≡ true
    back i = go (write-writer h c n i.write)
      where
        go : (p : ℕ) × (writer_of h c n ≡ Some p) → readable h c b n ≡ true
        go (p, q) = ap (current (bounds h c b) n) q ∙ le-leb (bound p) n (on (cases_lt n (bound p)))
          where
            on : (n < bound p) ⊎ (bound p ≤ n) → bound p ≤ n
            on (inl l) = absurd (i.current (over-known.0 ((r.over n p q).0 (lt-ltb n (bound p) l))))
            on (inr l) = l

pub readable-decided : ReadableDecided
unfolding ReadableDecided
readable-decided = readable-tells

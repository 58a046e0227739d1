-- When a bench told plainly is like the state of a bench over a first-come path; and what keeps it so.
use Rattle.std.proofs.Common.{◌≡◌, ℕ, ◌<◌, ◌≤◌, min, true, ◌&&◌, eqb, ltb, ◌≢◌, List, [], ◌∷◌, length, get_or, set, None, Option, sym, refl, ap, ◌∙◌, subst, ⊎_elim, arith}
use Rattle.std.proofs.lemmas.List.{get_or-set_same, get_or-set_other}
use Rattle.std.proofs.lemmas.Bool.{cond_both, cases_eq, and_parts, eqb-true, eqb-false}
use Rattle.model.specs.declared.carry.Carry.{Carry}
use Rattle.model.specs.declared.entry.Entry.{Entry}
use Rattle.home.specs.Words.{written}
use Rattle.carries.specs.Lines.{lane, newest, Proper}
use Rattle.carries.specs.Tables.{lines_of, located}
use Rattle.carries.proofs.ByBoard.{lane_of, landed, proper}
use Rattle.cache.specs.Places.{entry_in, taken_in}
use Rattle.state.specs.Cells.{project}
use Rattle.state.specs.Opening.{quiet, refusal_of, fresh, opened_by, opened}
use Rattle.state.specs.Sound.{Sound}
use Rattle.state.specs.States.{State, cells_of, cache_of, owner_of, word_of, with_owner, with_words, with_lines}
use Rattle.state.specs.Steps.{carried}
use Rattle.state.specs.Steps as bench
use Rattle.state.proofs.Flights.{unloaded}
use Rattle.state.proofs.Kept.{cache-of, board-in, only-caches, length-written}
use Rattle.state.proofs.Opened.{accepted, sound-opened, opened-entry, opened-owner, opened-memory}
use Rattle.state.proofs.Protocol.{turned-puts, word-here, word-there}
use Rattle.state.proofs.Ways.{On, Puts}
use Rattle.report.specs.Plain.{Plain, put, with_entry, with_word, with_waiting, valid_below, newest_of, fetched}
use Rattle.report.specs.Plain as plain
use Rattle.report.proofs.Counted.{valid_same, taken-count}

-- the same boards, entries, cells, owners and words; the lines are those of the carries that wait
pub record Like (s : State) (p : Plain) : Type 0 where
  pub long : s.long ≡ 8
  pub boards : p.boards ≡ s.boards
  pub entries : p.entries ≡ s.entries
  pub cells : p.cells ≡ cells_of s
  pub entry : (b c : ℕ) → p.entry b c ≡ (project c s).entry b
  pub past : (b c : ℕ) → cells_of s ≤ c → p.entry b c ≡ Entry.Invalid
  pub owner : (c : ℕ) → p.owner c ≡ owner_of s c
  pub word : (c : ℕ) → c < cells_of s → p.word c ≡ word_of s c
  pub lines : s.lines ≡ lines_of p.waiting
  pub located : located p.waiting ≡ true

-- ── what both tell ──

module _ (s : State) (p : Plain) (b c : ℕ) (sound : Sound s) (like : Like s p) (on : On s b c) where
  -- the newest carry of the board and the cell
  pub same-newest : newest_of p b c ≡ newest (lane s.lines b c)
  same-newest = sym (ap newest (ap (λ ls. lane ls b c) like.lines ∙ lane_of p.waiting b c (board-in s b c on sound)))

  -- the word that a read fetches
  pub same-fetched : fetched p b c ≡ bench.fetched s b c
  same-fetched = ap (λ o. carried o (p.word c)) same-newest ∙ ap (carried (newest (lane s.lines b c))) (like.word c on.cell)

  -- how many entries the board has
  pub same_count : valid_below (p.entry b) p.cells ≡ taken_in (cache_of s b)
  same_count =
      ap (valid_below (p.entry b)) like.cells
      ∙ valid_same (p.entry b) (entry_in (cache_of s b)) (cells_of s) (λ d _. like.entry b d)
      ∙ sym (taken-count (cache_of s b) (cells_of s) (cache-of s b (board-in s b c on sound) sound).1 (λ d h. sym (like.entry b d) ∙ like.past b d h))

-- ── what keeps them alike ──

-- at i and at any other
put_both : {X : Type 0} (f : ℕ → X) (i : ℕ) (x : X) (n : ℕ) (P : X → Type 0) → (n ≡ i → P x) → (n ≢ i → P (f n)) → P (put f i x n)
put_both f i x n P here there = cond_both (eqb n i) x (f n) P (λ t. here (eqb-true n i t)) (λ t. there (eqb-false n i t))

-- one entry
pub like-puts : {s t : State} {p : Plain} {b c : ℕ} {e : Entry} → Sound s → On s b c → Puts s b c e t → Like s p → Like t (with_entry p b c e)
like-puts {s = s} {t = t} {p = p} {b = b} {c = c} {e = e} sound on puts like =
    let turned = turned-puts (board-in s b c on sound) puts sound in
    let here = turned.here (omega (arith, on.cell)) in
    subst (λ u. Like u (with_entry p b c e)) (sym (only-caches puts))
    (record {
      long = like.long;
      boards = like.boards;
      entries = like.entries;
      cells = like.cells;
      entry = λ q d.
          put_both p.entry b (put (p.entry b) c e) q (λ f. f d ≡ (project d t).entry q)
          (λ (is : q ≡ b).
          subst (λ k. put (p.entry b) c e d ≡ (project d t).entry k) (sym is)
          (put_both (p.entry b) c e d (λ x. x ≡ (project d t).entry b)
          (λ (at : d ≡ c). subst (λ k. e ≡ (project k t).entry b) (sym at) (sym here.own_entry))
          (λ ne. like.entry b d ∙ sym ((turned.there d ne).entry b))))
          (λ other.
          like.entry q d
          ∙ ⊎_elim
          (λ (at : d ≡ c). subst (λ k. (project k s).entry q ≡ (project k t).entry q) (sym at) (sym (here.other_entries q other)))
          (λ (ne : d ≡ c → ⊥). sym ((turned.there d ne).entry q))
          (cases_eq d c));
      past = λ q d h.
          put_both p.entry b (put (p.entry b) c e) q (λ f. f d ≡ Entry.Invalid)
          (λ _. put_both (p.entry b) c e d (λ x. x ≡ Entry.Invalid) (λ at. absurd (omega (arith, on.cell))) (λ _. like.past b d h))
          (λ _. like.past q d h);
      owner = like.owner;
      word = like.word;
      lines = like.lines;
      located = like.located;
    })

-- one owner
pub like-owner : {s : State} {p : Plain} (c : ℕ) (o : Option ℕ) → Sound s → c < cells_of s → Like s p → Like (with_owner s c o) (plain.with_owner p c o)
like-owner {s = s} {p = p} c o sound on like =
    record {
      long = like.long;
      boards = like.boards;
      entries = like.entries;
      cells = like.cells;
      entry = like.entry;
      past = like.past;
      owner = λ d.
          put_both p.owner c o d (λ x. x ≡ get_or (set s.owners c o) d None)
          (λ (at : d ≡ c). subst (λ k. o ≡ get_or (set s.owners c o) k None) (sym at) (sym (get_or-set_same s.owners c o None (omega (arith, sound.owners)))))
          (λ ne. like.owner d ∙ sym (get_or-set_other s.owners c d o None ne));
      word = like.word;
      lines = like.lines;
      located = like.located;
    }

-- the carries that wait
pub like-lines : {s : State} {p : Plain} (ls : List (List Carry)) (xs : List Carry) → ls ≡ lines_of xs → located xs ≡ true → Like s p → Like (with_lines s ls) (with_waiting p xs)
like-lines ls xs is places like =
    record {
      long = like.long;
      boards = like.boards;
      entries = like.entries;
      cells = like.cells;
      entry = like.entry;
      past = like.past;
      owner = like.owner;
      word = like.word;
      lines = is;
      located = places;
    }

-- the memory's word of one cell
pub like-word : {s : State} {p : Plain} (c w : ℕ) → Like s p → Like (with_words s (written s.words c w)) (with_word p c w)
like-word {s = s} {p = p} c w like =
    let same : cells_of (with_words s (written s.words c w)) ≡ cells_of s = ap (min 64) (length-written s.words c w) in
    record {
      long = like.long;
      boards = like.boards;
      entries = like.entries;
      cells = like.cells ∙ sym same;
      entry = like.entry;
      past = λ b d h. like.past b d (omega arith);
      owner = like.owner;
      word = λ d h.
          put_both p.word c w d (λ x. x ≡ get_or (written s.words c w) d 0)
          (λ (at : d ≡ c). subst (λ k. w ≡ get_or (written s.words c w) k 0) (sym at) (sym (word-here s.words c w (omega (arith, length-written s.words c w)))))
          (λ ne. like.word d (omega arith) ∙ sym (word-there s.words c w d ne));
      lines = like.lines;
      located = like.located;
    }

-- the carry started first lands
pub like-landed : {s : State} {p : Plain} (x : Carry) (xs : List Carry) → p.waiting ≡ x ∷ xs → Like s p → Like (bench.landed s x) (with_word (with_waiting p xs) x.cell x.word)
like-landed {s = s} {p = p} x xs is like =
    let places : located (x ∷ xs) ≡ true = ap located (sym is) ∙ like.located in
    let lines = like.lines ∙ ap lines_of is in
    like-word x.cell x.word
    (like-lines (unloaded s.lines x) xs
    (ap (λ ls. unloaded ls x) lines ∙ sym (landed (x ∷ xs) 0 x (omega arith) refl refl places).1)
    (and_parts (ltb x.board 8 && ltb x.cell 64) (located xs) places).1
    like)

-- ── an accepted opening where nothing waits ──

pub idle-quiet : quiet (lines_of []) ≡ true
unfolding lines_of
idle-quiet = refl

pub idle-proper : Proper 8 (lines_of [])
idle-proper = proper 8 [] refl (λ b. omega arith)

pub sound-idle : (b e : ℕ) (ws : List ℕ) → Sound (opened b e ws (lines_of []) 8)
sound-idle b e ws = sound-opened b e ws (lines_of []) 8 idle-proper

-- the plain bench starts as it does
pub like-opened : (b e : ℕ) (ws : List ℕ) → refusal_of b e ws (lines_of []) ≡ None → Like (opened b e ws (lines_of []) 8) (plain.fresh b e ws)
like-opened b e ws h =
    let s = opened b e ws (lines_of []) 8 in
    let is : s ≡ fresh None b e ws (lines_of []) 8 = ap (λ r. opened_by r b e ws (lines_of []) 8) h in
    let fits : length ws ≡ min 64 (length ws) = omega (arith, (accepted b e ws (lines_of []) h).cells) in
    record {
      long = ap (λ t. t.long) is;
      boards = sym (ap (λ t. t.boards) is);
      entries = sym (ap (λ t. t.entries) is);
      cells = fits ∙ sym (ap cells_of is);
      entry = λ q c. sym (opened-entry b e ws (lines_of []) 8 c q);
      past = λ q c _. refl;
      owner = λ c. sym (opened-owner b e ws (lines_of []) 8 c);
      word = λ c _. sym (opened-memory b e ws (lines_of []) 8 c);
      lines = ap (λ t. t.lines) is;
      located = refl;
    }

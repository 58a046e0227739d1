-- A bench is sound when it is opened; and what an accepted opening shows.
use Rattle.std.proofs.Common.{◌≡◌, ℕ, zero, suc, ◌≤◌, true, false, List, [], ◌∷◌, length, get_or, replicate, Some, None, filter, Option, sym, refl, ap, ◌∙◌, subst, arith}
use Rattle.std.proofs.lemmas.Bool.{both_ways}
use Rattle.std.proofs.lemmas.Bool.Decides.{nat_tests}
use Rattle.model.specs.declared.carry.Carry.{Carry}
use Rattle.model.specs.declared.entry.Entry.{Entry}
use Rattle.model.specs.declared.refusal.Refusal.{Refusal}
use Rattle.carries.specs.Lines.{line, of_lane, lane, Proper}
use Rattle.cache.specs.declared.place.Place.{Place}
use Rattle.cache.specs.Places.{entry_in, clash, Distinct}
use Rattle.state.specs.Cells.{words_of, project}
use Rattle.state.specs.Laws.{OpenedSound}
use Rattle.state.specs.Opening.{quiet, refusal_of, opened_by, opened}
use Rattle.state.specs.Sound.{IsCache, Sound}
use Rattle.state.specs.States.{State}
use Rattle.state.proofs.Lists.{all_alike, each-alike}

-- empty caches

distinct-empty : (n : ℕ) → Distinct (replicate n Place.Empty)
distinct-empty n i j h = absurd (both_ways false refl (subst (λ p. clash p (get_or (replicate n Place.Empty) j Place.Empty) ≡ true) (each-alike (λ p. p ≡ Place.Empty) n Place.Empty Place.Empty refl refl i) h))

-- what an accepted opening shows

pub record Accepted (b e : ℕ) (ws : List ℕ) (ls : List (List Carry)) : Type 0 where
  pub some_board : 1 ≤ b
  pub boards : b ≤ 8
  pub some_cell : 1 ≤ length ws
  pub cells : length ws ≤ 64
  pub some_entry : 1 ≤ e
  pub entries : e ≤ 8
  pub lines : quiet ls ≡ true

pub accepted : (b e : ℕ) (ws : List ℕ) (ls : List (List Carry)) → refusal_of b e ws ls ≡ None → Accepted b e ws ls
accepted b e ws ls h = grind (arith, nat_tests)

-- where no carry waits, every line is empty
pub quiet-lines : (ls : List (List Carry)) → quiet ls ≡ true → (b : ℕ) → line ls b ≡ []
quiet-lines [] h b = refl
quiet-lines ((x ∷ xs) ∷ ls) h b = absurd (both_ways false refl h)
quiet-lines ([] ∷ ls) h zero = refl
quiet-lines ([] ∷ ls) h (suc b) = quiet-lines ls h b

-- sound

sound-by : (r : Option Refusal) (b e : ℕ) (ws : List ℕ) (ls : List (List Carry)) (n : ℕ) → refusal_of b e ws ls ≡ r → Proper n ls → Sound (opened_by r b e ws ls n)
sound-by None b e ws ls n h p =
    let k = accepted b e ws ls h in
    record {
      boards = k.boards;
      entries = k.entries;
      caches = refl;
      places = all_alike IsCache 8 (replicate 8 Place.Empty) (refl, distinct-empty 8);
      owners = refl;
      lines = p;
    }
sound-by (Some r) b e ws ls n h p =
    record {
      boards = omega arith;
      entries = omega arith;
      caches = refl;
      places = all_alike IsCache 8 (replicate 8 Place.Empty) (refl, distinct-empty 8);
      owners = refl;
      lines = p;
    }

pub sound-opened : OpenedSound
sound-opened b e ws ls n p = sound-by (refusal_of b e ws ls) b e ws ls n refl p

-- at each cell nothing is cached, no board owns it and the home's word is as given; nothing is in flight on an idle path

record Unused (s : State) (ws : List ℕ) (ls : List (List Carry)) : Type 0 where
  caches : s.caches ≡ replicate 8 (replicate 8 Place.Empty)
  owners : s.owners ≡ replicate 64 None
  words : s.words ≡ ws
  lines : s.lines ≡ ls

unused : (r : Option Refusal) (b e : ℕ) (ws : List ℕ) (ls : List (List Carry)) (n : ℕ) → Unused (opened_by r b e ws ls n) ws ls
unused None b e ws ls n = record { caches = refl; owners = refl; words = refl; lines = refl }
unused (Some r) b e ws ls n = record { caches = refl; owners = refl; words = refl; lines = refl }

empty-entry : (n c : ℕ) → entry_in (replicate n Place.Empty) c ≡ Entry.Invalid
empty-entry zero c = refl
empty-entry (suc n) c = empty-entry n c

module _ (b e : ℕ) (ws : List ℕ) (ls : List (List Carry)) (n : ℕ) where
  parts : Unused (opened b e ws ls n) ws ls
  parts = unused (refusal_of b e ws ls) b e ws ls n

  pub opened-entry : (c p : ℕ) → (project c (opened b e ws ls n)).entry p ≡ Entry.Invalid
  opened-entry c p =
      subst (λ l. entry_in (get_or l p []) c ≡ Entry.Invalid) (sym parts.caches)
      (each-alike (λ ps. entry_in ps c ≡ Entry.Invalid) 8 (replicate 8 Place.Empty) [] (empty-entry 8 c) refl p)

  pub opened-flight : quiet ls ≡ true → (c p : ℕ) → (project c (opened b e ws ls n)).flight p ≡ []
  opened-flight h c p = ap (λ l. words_of (lane l p c)) parts.lines ∙ ap (λ l. words_of (filter (of_lane p c) l)) (quiet-lines ls h p)

  pub opened-owner : (c : ℕ) → (project c (opened b e ws ls n)).owner ≡ None
  opened-owner c = subst (λ l. get_or l c None ≡ None) (sym parts.owners) (each-alike (λ o. o ≡ None) 64 None None refl refl c)

  pub opened-memory : (c : ℕ) → (project c (opened b e ws ls n)).memory ≡ get_or ws c 0
  opened-memory c = ap (λ l. get_or l c 0) parts.words

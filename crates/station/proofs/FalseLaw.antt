-- A read is told to be false exactly if it is the first that is not legal.
use Rattle.std.proofs.Common.{◌≡◌, ℕ, ◌+◌, ◌<◌, ◌≤◌, Bool, true, false, ◌⊎◌, List, [], ◌∷◌, ◌++◌, length, get_or, Some, None, Ok, Err, Option, Result, sym, refl, ap, ◌∙◌, subst, inl, inr, arith}
use Rattle.std.proofs.lemmas.List.{append-nil, append_assoc, length-append}
use Rattle.model.specs.declared.event.Event.{Event}
use Rattle.model.specs.declared.refusal.Refusal.{Refusal}
use Rattle.model.specs.declared.step.Step.{Step}
use Rattle.order.specs.Order.{Legal}
use Rattle.order.specs.Test.{on_boards, legal}
use Rattle.order.proofs.Legals.{legal_none}
use Rattle.judge.specs.Judging.{after, standing, note_answer, legal_answer}
use Rattle.judge.proofs.Discipline.{disciplined-none}
use Rattle.grammar.specs.declared.kind.Kind.TheVariants.{Log}
use Rattle.grammar.specs.declared.trace_step.TraceStep.{TraceStep}
use Rattle.grammar.specs.declared.trace_step.TraceStep.TheVariants.{Plain, ReadWord}
use Rattle.text.specs.declared.fault.Fault.{Fault}
use Rattle.text.specs.declared.header.Header.{Header}
use Rattle.text.specs.declared.placed_step.PlacedStep.{PlacedStep}
use Rattle.text.specs.Reading.{Trace, reading}
use Rattle.text.specs.Printing.{InRange}
use Rattle.station.specs.declared.task.Task.{Task}
use Rattle.station.specs.declared.task.Task.TheVariants.{Note, Check, Skip}
use Rattle.station.specs.declared.verdict.Verdict.{Verdict}
use Rattle.station.specs.declared.verdict.Verdict.TheVariants.{AllLegal, FalseRead}
use Rattle.station.specs.Tasks.{task_of}
use Rattle.text.specs.Heading.{starting_words}
use Rattle.station.specs.Verdicts.{accepted, found, task_answer, history_after, ended, resumed, judged_to, verdict_for, verdict_of}
use Rattle.station.specs.Laws.{event_in, events_of, read_step, FirstFalse, FalseExactly}
use Rattle.station.proofs.LogLaws.{runs-there, runs_back}
use Rattle.station.proofs.StepLaws.{Runs, done, step, after-there, standing-there, step-there, step_back, standing_on, boards-on, one_more}
use Rattle.station.proofs.ZeroLaw.{read, long, start}

-- after the events h
record FalseFrom (H : Header) (h : List Event) (ps : List PlacedStep) (n : ℕ) : Type 0 where
  before : List PlacedStep
  later : List PlacedStep
  board : ℕ
  cell : ℕ
  word : ℕ
  splits : ps ≡ before ++ read_step n board cell word ∷ later
  so_far : Runs H h before
  on_bench : (board < H.boards) × (cell < H.cells)
  not_legal : Legal (h ++ events_of before) H.start cell board word → ⊥

ended-false : (a : Result Bool Refusal) (m n : ℕ) (v : Verdict) → resumed (ended a m) v ≡ FalseRead n → ((a ≡ Ok true) × (v ≡ FalseRead n)) ⊎ ((a ≡ Ok false) × (m ≡ n))
ended-false (Ok true) m n v e = inl (refl, e)
ended-false (Ok false) m n v e = inr (refl, cc)
ended-false (Err r) m n v e = cc

accepted-true : (r : Result ℕ Refusal) → accepted r ≡ Ok false → ⊥
accepted-true (Ok n) e = cc
accepted-true (Err r) e = cc

found_none : (r : Result (Option ℕ) Refusal) → found r ≡ Ok false → r ≡ Ok None
found_none (Ok (Some n)) e = cc
found_none (Ok None) e = refl
found_none (Err r) e = cc

-- only a read with its word is checked
checked : (s : TraceStep) (b c w : ℕ) → task_of s ≡ Check b c w → s ≡ ReadWord b c w
checked (ReadWord b' c' w') b c w e =
    let x : b' ≡ b = cc in
    let y : c' ≡ c = cc in
    let z : w' ≡ w = cc in
    cc
checked (Plain (Step.Read b' c')) b c w e = cc
checked (Plain (Step.Write b' c' w')) b c w e = cc
checked (Plain (Step.Acquire b' c')) b c w e = cc
checked (Plain (Step.Release b' c')) b c w e = cc
checked (Plain (Step.WriteBack b' c')) b c w e = cc
checked (Plain (Step.Eject b' c')) b c w e = cc
checked (Plain Step.Land) b c w e = cc

record FalseHere (H : Header) (h : List Event) (t : Task) : Type 0 where
  board : ℕ
  cell : ℕ
  word : ℕ
  is : t ≡ Check board cell word
  on_bench : (board < H.boards) × (cell < H.cells)
  not_legal : Legal h H.start cell board word → ⊥

module _ (H : Header) (R : InRange H) (ws : List ℕ) (size : length ws ≡ H.cells) (all : (c : ℕ) → c < H.cells → get_or ws c 0 ≡ H.start) where
  step-false : (t : Task) (h : List Event) → on_boards h ≡ true → task_answer h H.boards ws t ≡ Ok false → FalseHere H h t
  step-false (Note e) h f q = absurd (accepted-true (note_answer h 2048 H.boards ws e) q)
  step-false (Check b c w) h f q =
      let a = found_none (legal_answer h H.boards ws b c w) q in
      let k = after-there (standing H.boards (length ws) b c) (Ok (legal h (get_or ws c 0) c b w)) None a in
      let s = standing-there H.boards (length ws) b c k.0 in
      let low : c < H.cells = omega (arith, s.1) in
      let small : b < 8 = omega (arith, s.0, R.boards.1) in
      let o : legal h (get_or ws c 0) c b w ≡ None = cc in
      record {
        board = b;
        cell = c;
        word = w;
        is = refl;
        on_bench = (s.0, low);
        not_legal = (legal_none h H.start c b w f small).0 (ap (λ x. legal h x c b w) (sym (all c low)) ∙ o);
      }
  step-false Skip h f q = cc

  false_there : (ps : List PlacedStep) (h : List Event) (n : ℕ) → on_boards h ≡ true → judged_to AllLegal H.boards ws h ps ≡ FalseRead n → FalseFrom H h ps n
  false_there [] h n f e = cc
  false_there (p ∷ ps) h n f e = go (ended-false (task_answer h H.boards ws (task_of p.step)) p.line n _ e) (λ k g q. false_there ps k n g q)
    where
      go : ((task_answer h H.boards ws (task_of p.step) ≡ Ok true) × (judged_to AllLegal H.boards ws (history_after h H.boards ws (task_of p.step)) ps ≡ FalseRead n)) ⊎ ((task_answer h H.boards ws (task_of p.step) ≡ Ok false) × (p.line ≡ n)) → ((k : List Event) → on_boards k ≡ true → judged_to AllLegal H.boards ws k ps ≡ FalseRead n → FalseFrom H k ps n) → FalseFrom H h (p ∷ ps) n
      go (inl (a, v)) rec =
          let t = step-there H R ws size all (task_of p.step) h f a in
          let m = rec (h ++ event_in (task_of p.step)) (boards-on H R ws size all (task_of p.step) h f t.0) (subst (λ k. judged_to AllLegal H.boards ws k ps ≡ FalseRead n) t.1 v) in
          record {
            before = p ∷ m.before;
            later = m.later;
            board = m.board;
            cell = m.cell;
            word = m.word;
            splits = ap (λ q. p ∷ q) m.splits;
            so_far = step t.0 m.so_far;
            on_bench = m.on_bench;
            not_legal = λ l. m.not_legal (subst (λ k. Legal k H.start m.cell m.board m.word) (sym (append_assoc h (event_in (task_of p.step)) (events_of m.before))) l);
          }
      go (inr (a, q)) rec =
          let s = step-false (task_of p.step) h f a in
          let r = checked p.step s.board s.cell s.word s.is in
          record {
            before = [];
            later = ps;
            board = s.board;
            cell = s.cell;
            word = s.word;
            splits = ap (λ x. record { line = p.line; step = x } ∷ ps) r ∙ ap (λ m. read_step m s.board s.cell s.word ∷ ps) q;
            so_far = done;
            on_bench = s.on_bench;
            not_legal = λ l. s.not_legal (subst (λ k. Legal k H.start s.cell s.board s.word) (append-nil h) l);
          }

  module _ (n b c w : ℕ) (p : b < H.boards) (q : c < H.cells) (later : List PlacedStep) where
    false_back : (before : List PlacedStep) (h : List Event) → on_boards h ≡ true → length h + length before ≤ 2048 → Runs H h before → (Legal (h ++ events_of before) H.start c b w → ⊥) → judged_to AllLegal H.boards ws h (before ++ read_step n b c w ∷ later) ≡ FalseRead n
    false_back [] h f room done no' =
        let small : b < 8 = omega (arith, p, R.boards.1) in
        let none = (legal_none h H.start c b w f small).1 (λ l. no' (subst (λ k. Legal k H.start c b w) (sym (append-nil h)) l)) in
        let answer : task_answer h H.boards ws (Check b c w) ≡ Ok false = ap (λ x. found (after x (Ok (legal h (get_or ws c 0) c b w)))) (standing_on H R ws size all b c p q) ∙ ap (λ x. found (Ok (legal h x c b w))) (all c q) ∙ ap (λ o. found (Ok o)) none in
        ap (λ a. resumed (ended a n) (judged_to AllLegal H.boards ws h later)) answer
    false_back (s ∷ before) h f room (step x r) no' =
        let t = step_back H R ws size all (task_of s.step) h f (omega arith) x in
        let m = one_more H R ws size all (task_of s.step) h in
        ap (λ a. resumed (ended a s.line) (judged_to AllLegal H.boards ws (history_after h H.boards ws (task_of s.step)) (before ++ read_step n b c w ∷ later))) t.0
        ∙ ap (λ k. judged_to AllLegal H.boards ws k (before ++ read_step n b c w ∷ later)) t.1
        ∙ false_back before (h ++ event_in (task_of s.step)) (boards-on H R ws size all (task_of s.step) h f x) (omega arith) r (λ l. no' (subst (λ k. Legal k H.start c b w) (append_assoc h (event_in (task_of s.step)) (events_of before)) l))

-- ── the law ──

module _ (log : List ℕ) (n : ℕ) where
  there : (r : Result Trace Fault) → reading Log log ≡ r → verdict_for r ≡ FalseRead n → (t : Trace) × (reading Log log ≡ Ok t) × FirstFalse t.header t.steps n
  there (Ok t) q e =
      let R = read log t q in
      let m = false_there t.header R.header (starting_words t.header) (long log t R) (start log t R) t.steps [] n refl e in
      let f = runs-there t.header m.before [] disciplined-none m.so_far in (
        t,
        q,
        record {
          before = m.before;
          later = m.later;
          board = m.board;
          cell = m.cell;
          word = m.word;
          splits = m.splits;
          so_far = record { on_bench = f.on_bench; disciplined = f.disciplined; legal = f.legal };
          on_bench = m.on_bench;
          not_legal = m.not_legal;
        },
      )
  there (Err f) q e = cc

  back : (t : Trace) × (reading Log log ≡ Ok t) × FirstFalse t.header t.steps n → verdict_of log ≡ FalseRead n
  back (t, q, m) =
      let R = read log t q in
      let few = R.few in
      let parts = ap length m.splits ∙ length-append m.before (read_step n m.board m.cell m.word ∷ m.later) in
      let a = m.so_far in
      let runs = runs_back t.header m.before [] (record { on_bench = a.on_bench; disciplined = a.disciplined; legal = a.legal }) in
      ap verdict_for q
      ∙ ap (judged_to AllLegal t.header.boards (starting_words t.header) []) m.splits
      ∙ false_back t.header R.header (starting_words t.header) (long log t R) (start log t R) n m.board m.cell m.word m.on_bench.0 m.on_bench.1 m.later m.before [] refl (omega arith) runs m.not_legal

pub false-exactly : FalseExactly
unfolding FalseExactly
false-exactly log n = (there log n (reading Log log) refl, back log n)

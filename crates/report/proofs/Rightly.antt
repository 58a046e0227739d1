-- Where a log keeps the memory model the judge notes every event of it, and finds every read legal.
use Rattle.std.proofs.Common.{◌≡◌, ℕ, ◌+◌, ◌<◌, ◌≤◌, true, false, cond, ltb, List, [], ◌∷◌, ◌++◌, length, Some, None, Ok, Err, Option, sym, refl, ap, ◌∙◌, subst, arith, length-append}
use Rattle.std.proofs.lemmas.List.{append-nil, append_assoc}
use Rattle.std.proofs.lemmas.Bool.{and_from, cond-true, cond-false, lt-ltb}
use Rattle.std.proofs.lemmas.Bool.Decides.{nat_tests}
use Rattle.std.specs.List.{AllByRecursion}
use Rattle.model.specs.declared.answer.Answer.{Answer}
use Rattle.model.specs.declared.event.Action.{Action}
use Rattle.model.specs.declared.event.Event.{Event}
use Rattle.model.specs.declared.refusal.Refusal.{Refusal}
use Rattle.model.specs.declared.step.Step.{Step}
use Rattle.order.specs.Order.{next, more, Legal, Disciplined}
use Rattle.order.specs.Test.{owner_of, legal, on_boards}
use Rattle.order.proofs.Legals.{legal_none}
use Rattle.protocol.specs.Runs.{event_of}
use Rattle.judge.specs.Judging.{after, standing, allowed, note_answer, extended, legal_answer}
use Rattle.judge.proofs.Discipline.{disciplined-more}
use Rattle.state.specs.States.{State}
use Rattle.state.proofs.Lists.{all-parts}
use Rattle.rules.specs.Logs.{Logged, onto, if_accepted, event_in, events, read_of}
use Rattle.rules.specs.Rules.{OnBench, start_of, KeepsModel}
use Rattle.report.specs.Judged.{noted, not_legal, read_wrongly, first_wrong, heard}

-- ── the events of a step ──

-- there is one at most
if-one : (a : Answer) (e : Event) → length (if_accepted a e) ≤ 1
if-one Answer.Done e = omega arith
if-one (Answer.Word w) e = omega arith
if-one (Answer.Landed x) e = omega arith
if-one Answer.NothingWaits e = omega arith
if-one (Answer.Refused r) e = omega arith

one-event : (x : Step) (a : Answer) → length (event_in x a) ≤ 1
one-event (Step.Read b c) a = omega arith
one-event (Step.Write b c w) a = if-one a (event_of c b (Action.Write w))
one-event (Step.Acquire b c) a = if-one a (event_of c b Action.Acquire)
one-event (Step.Release b c) a = if-one a (event_of c b Action.Release)
one-event (Step.WriteBack b c) a = omega arith
one-event (Step.Eject b c) a = omega arith
one-event Step.Land a = omega arith

-- ── the history of a log ──

-- older events stand first
events-append : (later log : List Logged) → events (later ++ log) ≡ events log ++ events later
events-append [] log = sym (append-nil (events log))
events-append (x ∷ later) log = ap (λ h. h ++ event_in x.step x.answer) (events-append later log) ∙ append_assoc (events log) (events later) (event_in x.step x.answer)

-- further steps leave what is older
onto-front : (log : List Logged) (xs : List Step) (given : List Answer) → (later : List Logged) × (onto log xs given ≡ later ++ log)
onto-front log [] given = ([], refl)
onto-front log (x ∷ xs) [] = ([], refl)
onto-front log (x ∷ xs) (a ∷ given) =
    let l : Logged = record { step = x; answer = a } in
    let r = onto-front (l ∷ log) xs given in
    (r.0 ++ l ∷ [], r.1 ∙ sym (append_assoc r.0 (l ∷ []) log))

-- one event more, and others behind it
push-append : (h : List Event) (e : Event) (es : List Event) → more h e ++ es ≡ h ++ e ∷ es
push-append h e es = append_assoc h (e ∷ []) es

-- what is older kept to ownership too
disciplined_front : (h es : List Event) → Disciplined (h ++ es) → Disciplined h
disciplined_front h [] d = subst Disciplined (append-nil h) d
disciplined_front h (e ∷ es) d = ((disciplined-more h e).0 (disciplined_front (more h e) es (subst Disciplined (sym (push-append h e es)) d))).0

-- ── what the judge says, where the bench is in range ──

module _ (o : State) (some_board : 1 ≤ o.boards) (boards : o.boards ≤ 8) (some_cell : 1 ≤ length o.words) (cells : length o.words ≤ 64) where
  abbrev There : Event → Type 0
  There e = OnBench o e.board e.cell

  -- it knows the board of each event
  on-boards : (h : List Event) → AllByRecursion There h → on_boards h ≡ true
  on-boards [] all = refl
  on-boards (e ∷ h) all = and_from (ltb e.board 8) (on_boards h) (lt-ltb e.board 8 (omega (arith, all.0.0))) (on-boards h all.1)

  -- and each board and each cell of the bench
  stood : (b c : ℕ) → OnBench o b c → standing o.boards (length o.words) b c ≡ Ok tt
  stood b c there = let board = there.0 in let cell = there.1 in grind (arith, nat_tests)

  -- it notes an event that the history's owner allows
  note : (h : List Event) (e : Event) → There e → Disciplined (more h e) → length h < 2048 → extended (note_answer h 2048 o.boards o.words e) h e ≡ more h e
  note h e there d room =
      let last = cond (ltb (length h) 2048) (Ok tt) (Err Refusal.EventsFull) in
      ap (λ r. extended (after (after r (after (allowed (owner_of h e.cell) e.board e.action) last)) (Ok (next h))) h e) (stood e.board e.cell there)
      ∙ ap (λ r. extended (after (after r last) (Ok (next h))) h e) ((disciplined-more h e).0 d).1
      ∙ ap (λ r. extended (after r (Ok (next h))) h e) (cond-true (ltb (length h) 2048) (Ok tt) (Err Refusal.EventsFull) (lt-ltb (length h) 2048 room))

  -- it notes all of them, where there is room
  notes : (h es : List Event) → AllByRecursion There es → Disciplined (h ++ es) → length h + length es ≤ 2048 → noted h o.boards o.words es ≡ h ++ es
  notes h [] all d room = sym (append-nil h)
  notes h (e ∷ es) all d room =
      let d' = subst Disciplined (sym (push-append h e es)) d in
      ap (λ g. noted g o.boards o.words es) (note h e all.0 (disciplined_front (more h e) es d') (omega arith))
      ∙ notes (more h e) es all.1 d' (omega (arith, length-append h (e ∷ [])))
      ∙ push-append h e es

  -- a legal word is found legal
  found : (h : List Event) (b c w : ℕ) → OnBench o b c → AllByRecursion There h → Legal h (start_of o c) c b w → not_legal (legal_answer h o.boards o.words b c w) ≡ false
  found h b c w there all is = ap (λ r. not_legal (after r (Ok (legal h (start_of o c) c b w)))) (stood b c there) ∙ by (legal h (start_of o c) c b w) refl
    where
      by : (n : Option ℕ) → legal h (start_of o c) c b w ≡ n → not_legal (Ok n) ≡ false
      by (Some n) e = refl
      by None e = absurd ((legal_none h (start_of o c) c b w (on-boards h all) (omega (arith, there.0))).0 e is)

  -- no step is read wrongly whose word is legal
  right : (h : List Event) (x : Step) (a : Answer) → AllByRecursion There h
      → ((b c w : ℕ) → x ≡ Step.Read b c → a ≡ Answer.Word w → OnBench o b c × Legal h (start_of o c) c b w) → read_wrongly h o.boards o.words x a ≡ false
  right h (Step.Read b c) (Answer.Word w) all is = let here = is b c w refl refl in found h b c w here.0 all here.1
  right h (Step.Read b c) (Answer.Landed y) all is = refl
  right h (Step.Read b c) Answer.NothingWaits all is = refl
  right h (Step.Read b c) Answer.Done all is = refl
  right h (Step.Read b c) (Answer.Refused r) all is = refl
  right h (Step.Write b c w) a all is = refl
  right h (Step.Acquire b c) a all is = refl
  right h (Step.Release b c) a all is = refl
  right h (Step.WriteBack b c) a all is = refl
  right h (Step.Eject b c) a all is = refl
  right h Step.Land a all is = refl

  -- one step of a log that keeps the model: the judge hears its event, and finds it right
  record Next (log : List Logged) (x : Step) (a : Answer) : Type 0 where
    hears : noted (events log) o.boards o.words (event_in x a) ≡ events (record { step = x; answer = a } ∷ log)
    is_right : read_wrongly (events log) o.boards o.words x a ≡ false
    room : length (events (record { step = x; answer = a } ∷ log)) ≤ length (events log) + 1

  next_step : (log : List Logged) (x : Step) (a : Answer) (xs : List Step) (given : List Answer) → KeepsModel o (onto log (x ∷ xs) (a ∷ given)) → length (events log) < 2048 → Next log x a
  next_step log x a xs given model room =
      let l : Logged = record { step = x; answer = a } in
      let front = onto-front (l ∷ log) xs given in
      let history = ap events front.1 ∙ events-append front.0 (l ∷ log) in
      let there = all-parts There (events log) (event_in x a) (all-parts There (events (l ∷ log)) (events front.0) (subst (AllByRecursion There) history model.events_there)).0 in
      let owners = disciplined_front (events (l ∷ log)) (events front.0) (subst Disciplined history model.owners) in
      let one = one-event x a in
      record {
        hears = notes (events log) (event_in x a) there.1 owners (omega arith);
        is_right = right (events log) x a there.0 (λ b c w p q.
            let stands = front.1 ∙ ap (λ y. front.0 ++ y ∷ log) (logged p q) in
            (model.reads_there front.0 log b c w stands, model.legal front.0 log b c w stands));
        room = omega (arith, length-append (events log) (event_in x a));
      }
    where
      logged : {b c w : ℕ} → x ≡ Step.Read b c → a ≡ Answer.Word w → record { step = x; answer = a } ≡ read_of b c w
      logged p q = cc

  -- so from any log on that keeps the model
  pub none_wrong : (n : ℕ) (log : List Logged) (xs : List Step) (given : List Answer) → KeepsModel o (onto log xs given)
      → length (events log) + length xs ≤ 2048 → first_wrong o.boards o.words n (events log) xs given ≡ None
  none_wrong n log [] given model room = refl
  none_wrong n log (x ∷ xs) [] model room = refl
  none_wrong n log (x ∷ xs) (a ∷ given) model room =
      let l : Logged = record { step = x; answer = a } in
      let next = next_step log x a xs given model (omega arith) in
      cond-false (read_wrongly (events log) o.boards o.words x a) _ _ next.is_right
      ∙ ap (λ h. first_wrong o.boards o.words (n + 1) h xs given) next.hears
      ∙ none_wrong (n + 1) (l ∷ log) xs given model (omega (arith, next.room))

  pub all_heard : (log : List Logged) (xs : List Step) (given : List Answer) → KeepsModel o (onto log xs given)
      → length (events log) + length xs ≤ 2048 → heard o.boards o.words (events log) xs given ≡ events (onto log xs given)
  all_heard log [] given model room = refl
  all_heard log (x ∷ xs) [] model room = refl
  all_heard log (x ∷ xs) (a ∷ given) model room =
      let l : Logged = record { step = x; answer = a } in
      let next = next_step log x a xs given model (omega arith) in
      ap (λ h. heard o.boards o.words h xs given) next.hears ∙ all_heard (l ∷ log) xs given model (omega (arith, next.room))

-- Steps that each stand after the events before them are a log whose reads are all legal, and the other way round.
use Rattle.std.proofs.Common.{◌≡◌, ℕ, List, [], ◌∷◌, ◌++◌, sym, refl, ap, ◌∙◌, subst}
use Rattle.std.specs.List.{AllByRecursion}
use Rattle.std.proofs.lemmas.List.{append-nil, append_assoc}
use Rattle.model.specs.declared.event.Event.{Event}
use Rattle.model.specs.declared.step.Step.{Step}
use Rattle.order.specs.Order.{more, Disciplined, Legal}
use Rattle.order.proofs.Owners.{disciplined-old}
use Rattle.judge.proofs.Discipline.{disciplined-more}
use Rattle.grammar.specs.declared.trace_step.TraceStep.{TraceStep}
use Rattle.grammar.specs.declared.trace_step.TraceStep.TheVariants.{Plain, ReadWord}
use Rattle.text.specs.declared.header.Header.{Header}
use Rattle.text.specs.declared.placed_step.PlacedStep.{PlacedStep}
use Rattle.station.specs.declared.task.Task.{Task}
use Rattle.station.specs.declared.task.Task.TheVariants.{Note, Check, Skip}
use Rattle.station.specs.Tasks.{task_of}
use Rattle.station.specs.Laws.{event_in, events_of, Stands, read_step, OnBench}
use Rattle.station.proofs.StepLaws.{Fine, Runs, done, step}

-- all reads of some steps are legal, where the events h come before them
pub record From (H : Header) (h : List Event) (ps : List PlacedStep) : Type 0 where
  pub on_bench : AllByRecursion (Stands H) ps
  pub disciplined : Disciplined (h ++ events_of ps)
  pub legal : (before later : List PlacedStep) (line b c w : ℕ) → ps ≡ before ++ read_step line b c w ∷ later → Legal (h ++ events_of before) H.start c b w

module _ (H : Header) where
  fine-on : (t : Task) (h : List Event) → Fine H h t → OnBench H t
  fine-on (Note e) h (p, a) = p
  fine-on (Check b c w) h (p, l) = p
  fine-on Skip h x = tt

  disciplined-on : (t : Task) (h : List Event) → Fine H h t → Disciplined h → Disciplined (h ++ event_in t)
  disciplined-on (Note e) h (p, a) d = (disciplined-more h e).1 (d, a)
  disciplined-on (Check b c w) h x d = subst Disciplined (sym (append-nil h)) d
  disciplined-on Skip h x d = subst Disciplined (sym (append-nil h)) d

  first_read : (h : List Event) (p q : PlacedStep) (b c w : ℕ) → p ≡ q → q.step ≡ ReadWord b c w → Fine H h (task_of p.step) → Legal (h ++ []) H.start c b w
  first_read h p q b c w e s x =
      subst (λ k. Legal k H.start c b w) (sym (append-nil h)) (subst (λ a. Fine H h (task_of a)) (ap (λ (r : PlacedStep). r.step) e ∙ s) x).1

  pub runs-there : (ps : List PlacedStep) (h : List Event) → Disciplined h → Runs H h ps → From H h ps
  runs-there [] h d done = record {
    on_bench = tt;
    disciplined = subst Disciplined (sym (append-nil h)) d;
    legal = none;
  }
    where
      none : (before later : List PlacedStep) (line b c w : ℕ) → [] ≡ before ++ read_step line b c w ∷ later → Legal (h ++ events_of before) H.start c b w
      none [] later line b c w e = cc
      none (q ∷ before) later line b c w e = cc
  runs-there (p ∷ ps) h d (step x r) =
      let n = runs-there ps (h ++ event_in (task_of p.step)) (disciplined-on (task_of p.step) h x d) r in
      record {
        on_bench = (fine-on (task_of p.step) h x, n.on_bench);
        disciplined = subst Disciplined (append_assoc h (event_in (task_of p.step)) (events_of ps)) n.disciplined;
        legal = on n;
      }
    where
      on : From H (h ++ event_in (task_of p.step)) ps → (before later : List PlacedStep) (line b c w : ℕ) → p ∷ ps ≡ before ++ read_step line b c w ∷ later → Legal (h ++ events_of before) H.start c b w
      on n [] later line b c w e = let same : p ≡ read_step line b c w = cc in first_read h p (read_step line b c w) b c w same refl x
      on n (q ∷ before) later line b c w e =
          let same : p ≡ q = cc in
          let others : ps ≡ before ++ read_step line b c w ∷ later = cc in
          subst (λ k. Legal k H.start c b w) (append_assoc h (event_in (task_of p.step)) (events_of before) ∙ ap (λ (a : PlacedStep). h ++ (event_in (task_of a.step) ++ events_of before)) same) (n.legal before later line b c w others)

  -- the other way round

  disciplined_front : (g h : List Event) → Disciplined (h ++ g) → Disciplined h
  disciplined_front [] h d = subst Disciplined (append-nil h) d
  disciplined_front (e ∷ g) h d = disciplined-old h e (disciplined_front g (more h e) (subst Disciplined (sym (append_assoc h (e ∷ []) g)) d))

  noted : (e : Event) (g h : List Event) → OnBench H (Note e) → Disciplined (h ++ e ∷ g) → Fine H h (Note e)
  noted e g h p d = (p, ((disciplined-more h e).0 (disciplined_front g (more h e) (subst Disciplined (sym (append_assoc h (e ∷ []) g)) d))).1)

  fine : (s : TraceStep) (n : ℕ) (ps : List PlacedStep) (h : List Event) → From H h (record { line = n; step = s } ∷ ps) → Fine H h (task_of s)
  fine (ReadWord b c w) n ps h f = (f.on_bench.0, subst (λ k. Legal k H.start c b w) (append-nil h) (f.legal [] ps n b c w refl))
  fine (Plain (Step.Read b c)) n ps h f = tt
  fine (Plain (Step.Write b c w)) n ps h f = noted _ (events_of ps) h f.on_bench.0 f.disciplined
  fine (Plain (Step.Acquire b c)) n ps h f = noted _ (events_of ps) h f.on_bench.0 f.disciplined
  fine (Plain (Step.Release b c)) n ps h f = noted _ (events_of ps) h f.on_bench.0 f.disciplined
  fine (Plain (Step.WriteBack b c)) n ps h f = tt
  fine (Plain (Step.Eject b c)) n ps h f = tt
  fine (Plain Step.Land) n ps h f = tt

  pub runs_back : (ps : List PlacedStep) (h : List Event) → From H h ps → Runs H h ps
  runs_back [] h f = done
  runs_back (p ∷ ps) h f =
      step (fine p.step p.line ps h f) (runs_back ps (h ++ event_in (task_of p.step)) (record {
        on_bench = f.on_bench.1;
        disciplined = subst Disciplined (sym (append_assoc h (event_in (task_of p.step)) (events_of ps))) f.disciplined;
        legal = λ before later line b c w e. subst (λ k. Legal k H.start c b w) (sym (append_assoc h (event_in (task_of p.step)) (events_of before))) (f.legal (p ∷ before) later line b c w (ap (λ q. p ∷ q) e));
      }))

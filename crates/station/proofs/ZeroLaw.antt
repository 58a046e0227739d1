-- The number of a verdict is 0 exactly if the text is a log without a fault and all of its reads are legal.
use Rattle.std.proofs.Common.{◌≡◌, ℕ, ◌<◌, ◌≤◌, Bool, true, false, List, [], ◌∷◌, length, get_or, Some, None, Ok, Err, Option, Result, refl, ap, ◌∙◌, subst, arith}
use lib.ListN.{length-replicate, get_or-replicate}
use Rattle.std.specs.List.{AllByRecursion}
use Rattle.model.specs.Refusals.{number_of}
use Rattle.model.specs.declared.event.Event.{Event}
use Rattle.model.specs.declared.refusal.Refusal.{Refusal}
use Rattle.model.specs.declared.refusal.Refusal.TheVariants.{NoSuchBoard, NoSuchCell, SizeOutOfRange, MalformedLine, AnswersTooShort, TextTooLong, NotAWrite, PathNotEmpty, OwnedByAnother, OwnedAlready, NotOwner, CacheFull, NotCached, NotDirty, UnsettledWrite, LineFull, EventsFull}
use Rattle.judge.proofs.Discipline.{disciplined-none}
use Rattle.grammar.specs.declared.kind.Kind.TheVariants.{Log}
use Rattle.text.specs.declared.fault.Fault.{Fault}
use Rattle.text.specs.declared.header.Header.{Header}
use Rattle.text.specs.declared.placed_step.PlacedStep.{PlacedStep}
use Rattle.text.specs.Reading.{Trace, header_in, course_in, complete, reading}
use Rattle.text.specs.Printing.{InRange}
use Rattle.text.proofs.Headers.{header-in-range}
use Rattle.station.specs.declared.verdict.Verdict.{Verdict}
use Rattle.station.specs.declared.verdict.Verdict.TheVariants.{AllLegal, FalseRead, Faulty}
use Rattle.station.specs.Tasks.{task_of}
use Rattle.text.specs.Heading.{starting_words}
use Rattle.station.specs.Verdicts.{task_answer, history_after, ended, resumed, judged_to, verdict_for, verdict_number, number_on}
use Rattle.station.specs.Laws.{AllReadsLegal, ZeroExactly}
use Rattle.station.proofs.Lines.{OnLine, steps-placed}
use Rattle.station.proofs.LogLaws.{runs-there, runs_back}
use Rattle.station.proofs.StepLaws.{judged-there, judged-back}

-- ── only one verdict has the number 0 ──

positive : (r : Refusal) → 1 ≤ number_of r
positive NoSuchBoard = omega arith
positive NoSuchCell = omega arith
positive SizeOutOfRange = omega arith
positive MalformedLine = omega arith
positive AnswersTooShort = omega arith
positive TextTooLong = omega arith
positive NotAWrite = omega arith
positive PathNotEmpty = omega arith
positive OwnedByAnother = omega arith
positive OwnedAlready = omega arith
positive NotOwner = omega arith
positive CacheFull = omega arith
positive NotCached = omega arith
positive NotDirty = omega arith
positive UnsettledWrite = omega arith
positive LineFull = omega arith
positive EventsFull = omega arith

Told : Verdict → Type 0
Told AllLegal = Unit {0}
Told (FalseRead n) = 1 ≤ n
Told (Faulty f) = Unit {0}

ended-told : (a : Result Bool Refusal) (n : ℕ) (v : Verdict) → 1 ≤ n → Told v → Told (resumed (ended a n) v)
unfolding Told
ended-told (Ok true) n v l t = t
ended-told (Ok false) n v l t = l
ended-told (Err r) n v l t = tt

judged-told : (boards : ℕ) (ws : List ℕ) (ps : List PlacedStep) (h : List Event) → AllByRecursion OnLine ps → Told (judged_to AllLegal boards ws h ps)
unfolding Told
judged-told boards ws [] h l = tt
judged-told boards ws (p ∷ ps) h l = ended-told (task_answer h boards ws (task_of p.step)) p.line _ l.0 (judged-told boards ws ps (history_after h boards ws (task_of p.step)) l.1)

zero-legal : (v : Verdict) → Told v → verdict_number v ≡ 0 → v ≡ AllLegal
unfolding Told
zero-legal AllLegal t e = refl
zero-legal (FalseRead n) t e = absurd (omega arith)
zero-legal (Faulty f) t e = absurd (omega (arith, positive f.refusal))

-- ── the steps of a text that is read ──

pub record Read (log : List ℕ) (t : Trace) : Type 0 where
  pub header : InRange t.header
  pub lined : AllByRecursion OnLine t.steps
  pub few : length t.steps ≤ 2048

read_of : (r : Result Header Fault) (ps : List PlacedStep) (f : Option Fault) (log : List ℕ) (t : Trace) → ((g : Header) → r ≡ Ok g → InRange g) → AllByRecursion OnLine ps → length ps ≤ 2048 → complete r (record { steps = ps; fault = f }) ≡ Ok t → Read log t
read_of (Ok g) ps None log t fits lined few e =
    let same : record { header = g; steps = ps } ≡ t = cc in
    subst (Read log) same (record { header = fits g refl; lined = lined; few = few })
read_of (Ok g) ps (Some f) log t fits lined few e = cc
read_of (Err g) ps f log t fits lined few e = cc

pub read : (log : List ℕ) (t : Trace) → reading Log log ≡ Ok t → Read log t
read log t e = let p = steps-placed Log log in read_of (header_in Log log) (course_in Log log).steps (course_in Log log).fault log t (header-in-range Log log) p.0 p.1 e

-- ── the law ──

module _ (log : List ℕ) (t : Trace) (R : Read log t) where
  pub long : length (starting_words t.header) ≡ t.header.cells
  long = length-replicate t.header.cells t.header.start

  pub start : (c : ℕ) → c < t.header.cells → get_or (starting_words t.header) c 0 ≡ t.header.start
  start c l = get_or-replicate t.header.cells c t.header.start 0 l

  legal-there : verdict_for (Ok t) ≡ AllLegal → AllReadsLegal t.header t.steps
  legal-there e =
      let f = runs-there t.header t.steps [] disciplined-none (judged-there t.header R.header (starting_words t.header) long start t.steps [] refl e) in
      record { on_bench = f.on_bench; disciplined = f.disciplined; legal = f.legal }

  legal_back : AllReadsLegal t.header t.steps → verdict_for (Ok t) ≡ AllLegal
  legal_back a =
      let few = R.few in
      judged-back t.header R.header (starting_words t.header) long start t.steps [] refl (omega arith) (runs_back t.header t.steps [] (record { on_bench = a.on_bench; disciplined = a.disciplined; legal = a.legal }))

module _ (log : List ℕ) where
  there : (r : Result Trace Fault) → reading Log log ≡ r → verdict_number (verdict_for r) ≡ 0 → (t : Trace) × (reading Log log ≡ Ok t) × AllReadsLegal t.header t.steps
  there (Ok t) q e = let R = read log t q in (t, q, legal-there log t R (zero-legal (verdict_for (Ok t)) (judged-told t.header.boards (starting_words t.header) t.steps [] R.lined) e))
  there (Err f) q e = absurd (omega (arith, positive f.refusal))

  back : (t : Trace) × (reading Log log ≡ Ok t) × AllReadsLegal t.header t.steps → number_on log ≡ 0
  back (t, q, a) = ap (λ r. verdict_number (verdict_for r)) q ∙ ap verdict_number (legal_back log t (read log t q) a)

pub zero-exactly : ZeroExactly
unfolding ZeroExactly
zero-exactly log = (there log (reading Log log) refl, back log)

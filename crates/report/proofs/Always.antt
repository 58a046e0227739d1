-- In a run without a fault the judge finds every read legal.
use Rattle.std.proofs.Common.{◌≡◌, ℕ, ◌≤◌, List, [], ◌∷◌, length, None, Ok, Err, Result, sym, refl, ap, subst, arith}
use lib.ListN.{length-replicate}
use Rattle.std.proofs.lemmas.List.{length-map, take_all}
use Rattle.std.proofs.lemmas.Bool.Decides.{nat_tests}
use Rattle.model.specs.declared.answer.Answer.{Answer}
use Rattle.model.specs.declared.step.Step.{Step}
use Rattle.grammar.specs.Steps.{plain_step}
use Rattle.grammar.specs.declared.kind.Kind.TheVariants.{Run}
use Rattle.carries.specs.Tables.{lines_of}
use Rattle.state.specs.Chains.{Chain}
use Rattle.state.specs.Opening.{refusal_of, opened_by, opened}
use Rattle.state.specs.States.{State}
use Rattle.state.proofs.Opened.{accepted}
use Rattle.text.specs.Heading.{starting_words}
use Rattle.text.specs.Printing.{InRange}
use Rattle.text.specs.Reading.{Trace, reading}
use Rattle.text.specs.declared.fault.Fault.{Fault}
use Rattle.text.specs.declared.header.Header.{Header}
use Rattle.text.proofs.Readings.{read-in-range, few-steps}
use Rattle.rules.specs.Calls.{ran, opening, run}
use Rattle.rules.specs.Logs.{onto, events}
use Rattle.rules.specs.Rules.{KeepsModel}
use Rattle.rules.proofs.Together.{over_all_calls}
use Rattle.report.specs.Judged.{first_wrong, heard}
use Rattle.report.specs.Output.{steps_of, AsRun, AlwaysLegal}
use Rattle.report.specs.Plain.{Plain, fresh, step, answers}
use Rattle.report.proofs.Chained.{chained}
use Rattle.report.proofs.Likes.{idle-quiet, idle-proper, sound-idle, like-opened}
use Rattle.report.proofs.Rightly.{none_wrong, all_heard}

-- sizes in range are accepted
accepts : (b e : ℕ) (ws : List ℕ) → (1 ≤ b) × (b ≤ 8) → (1 ≤ length ws) × (length ws ≤ 64) → (1 ≤ e) × (e ≤ 8) → refusal_of b e ws (lines_of []) ≡ None
accepts b e ws boards cells entries = let idle = idle-quiet in grind (arith, nat_tests)

-- one answer for each step
pub length-answers : (p : Plain) (xs : List Step) → length (answers p xs) ≡ length xs
length-answers p [] = refl
length-answers p (x ∷ xs) = omega (arith, length-answers (step p x).1 xs)

-- the plain answers of a bench that was accepted, as one run
module _ (b e : ℕ) (ws : List ℕ) (xs : List Step) (opens : refusal_of b e ws (lines_of []) ≡ None) where
  abbrev given : List Answer
  given = answers (fresh b e ws) xs

  abbrev bench : State
  bench = opened b e ws (lines_of []) 8

  chain : (t : State) × Chain bench xs given t
  chain = chained bench (fresh b e ws) xs (sound-idle b e ws) (like-opened b e ws opens)

  -- its log keeps the memory model
  keeps : KeepsModel bench (onto [] xs given)
  keeps =
      let long = length-answers (fresh b e ws) xs in
      (over_all_calls b e ws (lines_of []) 8 idle-proper (ran xs given (Ok tt) given ∷ []) chain.0
      (run opening (record { room = omega arith; chain = subst (λ l. Chain bench xs l chain.0) (sym (take_all (length xs) given (omega arith))) chain.1; rest = refl }))
      ).model

  -- what is said of the judge for the bench's own boards and words holds of those asked for
  as-asked : (P : ℕ → List ℕ → Type 0) → P bench.boards bench.words → P b ws
  as-asked P h =
      subst (λ l. P b l) (ap (λ r. (opened_by r b e ws (lines_of []) 8).words) opens)
      (subst (λ n. P n bench.words) (ap (λ r. (opened_by r b e ws (lines_of []) 8).boards) opens) h)

  module _ (few : length xs ≤ 2048) where
    fits : (1 ≤ bench.boards) × (bench.boards ≤ 8) × (1 ≤ length bench.words) × (length bench.words ≤ 64)
    fits =
        let asked = accepted b e ws (lines_of []) opens in
        let boards : bench.boards ≡ b = ap (λ r. (opened_by r b e ws (lines_of []) 8).boards) opens in
        let cells : length bench.words ≡ length ws = ap (λ r. length (opened_by r b e ws (lines_of []) 8).words) opens in
        (omega (arith, asked.some_board), omega (arith, asked.boards), omega (arith, asked.some_cell), omega (arith, asked.cells))

    none-wrong-in : first_wrong b ws 1 [] xs given ≡ None
    none-wrong-in = as-asked (λ n l. first_wrong n l 1 [] xs given ≡ None) (none_wrong bench fits.0 fits.1 fits.2 fits.3 1 [] xs given keeps (omega arith))

    heard-in : heard b ws [] xs given ≡ events (onto [] xs given)
    heard-in = as-asked (λ n l. heard n l [] xs given ≡ events (onto [] xs given)) (all_heard bench fits.0 fits.1 fits.2 fits.3 [] xs given keeps (omega arith))

-- a header in range is accepted
pub header-opens : (h : Header) → InRange h → refusal_of h.boards h.entries (starting_words h) (lines_of []) ≡ None
header-opens h in' =
    accepts h.boards h.entries (starting_words h) in'.boards
    (subst (λ n. (1 ≤ n) × (n ≤ 64)) (sym (length-replicate h.cells h.start)) in'.cells)
    in'.entries

pub always-legal : AlwaysLegal
unfolding AlwaysLegal
always-legal text = by (reading Run text) refl
  where
    by : (r : Result Trace Fault) → reading Run text ≡ r → AsRun r
    by (Ok t) e =
        let h = t.header in
        let xs = steps_of t.steps in
        let opens = header-opens h (read-in-range Run text t e) in
        let few : length xs ≤ 2048 = omega (arith, length-map t.steps (λ p. plain_step p.step), few-steps Run text t e) in
        record {
          model = keeps h.boards h.entries (starting_words h) xs opens;
          hears = heard-in h.boards h.entries (starting_words h) xs opens few;
          none_wrong = none-wrong-in h.boards h.entries (starting_words h) xs opens few;
        }
    by (Err f) e = tt

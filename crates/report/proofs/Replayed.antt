-- What the program's own bench answers: over a first-come path, and over any home with these words.
use Rattle.std.proofs.Common.{◌≡◌, ℕ, ◌≤◌, List, [], length, take, drop, replicate, Ok, Err, Result, sym, refl, ap, ◌∙◌, subst, arith, length-drop}
use Rattle.std.proofs.lemmas.List.{drop_all, take_all}
use Rattle.model.specs.declared.answer.Answer.{Answer}
use Rattle.model.specs.declared.refusal.Refusal.{Refusal}
use Rattle.model.specs.declared.step.Step.{Step}
use Rattle.grammar.specs.declared.kind.Kind.TheVariants.{Run}
use Rattle.home.specs.PairHome.{size_for}
use Rattle.home.proofs.Sizes.{words-as-asked}
use Rattle.path.specs.FirstCome.{StartsLast, LandsEarliest}
use Rattle.carries.specs.Held.{held, lines_in}
use Rattle.carries.specs.Tables.{lines_of}
use Rattle.path.specs.declared.first_come.FirstCome.{FirstCome}
use Rattle.state.specs.Opening.{refusal_of, opened}
use Rattle.state.specs.Runs.{Ran, Went}
use Rattle.state.specs.States.{State}
use Rattle.text.specs.Heading.{starting_words}
use Rattle.text.specs.Printing.{InRange}
use Rattle.text.specs.Reading.{Trace, reading, header_of}
use Rattle.text.specs.declared.fault.Fault.{Fault}
use Rattle.text.specs.declared.header.Header.{Header}
use Rattle.text.proofs.Readings.{read-in-range}
use Rattle.report.specs.Output.{answers_to}
use Rattle.report.specs.Plain.{fresh, answers}
use Rattle.report.proofs.Always.{length-answers, header-opens}
use Rattle.report.proofs.Courses.{same-answers}

-- a list of answers as long as the steps holds theirs and no more
all-taken : (before after : List Answer) (n : ℕ) → length before ≡ n → drop n after ≡ drop n before → take n after ≡ after
all-taken before after n long rest =
    let none : drop n before ≡ [] = drop_all n before (omega arith) in
    let short : length after ≤ n = omega (arith, length-drop n after, ap length (rest ∙ none)) in
    take_all n after short

module _ (h : Header) (fits : InRange h) (p q : FirstCome) (xs : List Step) (before after : List Answer) (t : State) where
  abbrev bench : List ℕ → State
  bench words = opened h.boards h.entries words (lines_in p.waiting) 8

  pub replayed : (words : List ℕ) (r : Result (Unit {0}) Refusal) → words ≡ replicate (size_for h.cells) h.start → held p.waiting ≡ [] → length before ≡ length xs
      → Ran (bench words) xs before r after t
      → Went (λ a x b. StartsLast a.waiting x b.waiting) (λ a o b. LandsEarliest a.waiting o b.waiting) (bench words) p xs r after t q
      → after ≡ answers_to h xs
  replayed words (Ok u) is idle long ran went =
      let start : words ≡ starting_words h = is ∙ words-as-asked h.cells h.start fits.cells.1 in
      sym (all-taken before after (length xs) long ran.rest)
      ∙ same-answers {P = FirstCome} (λ a. held a.waiting) _ _ (λ a x b s. s) (λ a o b l. l) h.boards h.entries words p q xs (take (length xs) after) t
      (ap (λ ws. refusal_of h.boards h.entries ws (lines_in p.waiting)) start ∙ ap (λ xs. refusal_of h.boards h.entries (starting_words h) (lines_of xs)) idle ∙ header-opens h fits)
      idle went
      ∙ ap (λ ws. answers (fresh h.boards h.entries ws) xs) start
  replayed words (Err r) is idle long ran went = absurd (omega (arith, ran.short))

-- ── the whole text ──

-- one answer for each step
pub enough : (h : Header) (xs : List Step) (given : List Answer) → given ≡ answers_to h xs → length xs ≤ length given
enough h xs given is = omega (arith, ap length is, length-answers (fresh h.boards h.entries (starting_words h)) xs)

-- a text whose header is known
pub header-known : (text : List ℕ) (h : Header) → header_of (reading Run text) ≡ Ok h → InRange h
header-known text h e = by (reading Run text) refl e
  where
    by : (r : Result Trace Fault) → reading Run text ≡ r → header_of r ≡ Ok h → InRange h
    by (Ok t) is e = let same : t.header ≡ h = cc in subst InRange same (read-in-range Run text t is)
    by (Err f) is e = absurd cc

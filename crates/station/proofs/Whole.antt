-- The verdict on a whole text, once its header is read.
use Rattle.std.proofs.Common.{◌≡◌, ℕ, List, [], replicate, Some, None, Ok, Err, Option, Result, sym, refl, ap, ◌∙◌}
use Rattle.home.specs.PairHome.{size_for}
use Rattle.home.proofs.Sizes.{words-as-asked}
use Rattle.grammar.specs.declared.kind.Kind.TheVariants.{Log}
use Rattle.text.specs.declared.fault.Fault.{Fault}
use Rattle.text.specs.declared.header.Header.{Header}
use Rattle.text.specs.declared.placed_step.PlacedStep.{PlacedStep}
use Rattle.text.specs.Reading.{header_in, course_in, complete, reading, header_of}
use Rattle.text.specs.Printing.{InRange}
use Rattle.text.proofs.Headers.{header-in-range}
use Rattle.station.specs.declared.verdict.Verdict.TheVariants.{AllLegal}
use Rattle.station.specs.Verdicts.{judged_to, end_of, verdict_for, verdict_of}

whole_of : (r : Result Header Fault) (ps : List PlacedStep) (f : Option Fault) (h : Header) → ((g : Header) → r ≡ Ok g → InRange g) → header_of (complete r (record { steps = ps; fault = f })) ≡ Ok h → judged_to (end_of f) h.boards (replicate (size_for h.cells) h.start) [] ps ≡ verdict_for (complete r (record { steps = ps; fault = f }))
whole_of (Ok g) ps None h fits e =
    let same : g ≡ h = cc in
    ap (λ (k : Header). judged_to AllLegal k.boards (replicate (size_for k.cells) k.start) [] ps) (sym same)
    ∙ ap (λ ws. judged_to AllLegal g.boards ws [] ps) (words-as-asked g.cells g.start (fits g refl).cells.1)
whole_of (Ok g) ps (Some f) h fits e = cc
whole_of (Err g) ps f h fits e = cc

pub whole : (log : List ℕ) (h : Header) → header_of (reading Log log) ≡ Ok h → judged_to (end_of (course_in Log log).fault) h.boards (replicate (size_for h.cells) h.start) [] (course_in Log log).steps ≡ verdict_of log
whole log h e = whole_of (header_in Log log) (course_in Log log).steps (course_in Log log).fault h (header-in-range Log log) e

-- What is printed is read back, number by number and line by line.
use Rattle.std.proofs.Common.{◌≡◌, ℕ, ◌+◌, ◌*◌, ◌/◌, ◌%◌, ◌<◌, ◌≤◌, Bool, true, false, cond, not, ◌&&◌, ◌||◌, eqb, List, [], ◌∷◌, ◌++◌, Some, decimal, sym, refl, ap, ◌∙◌, arith}
use Rattle.std.specs.Char.{is_ascii_digit}
use Rattle.std.proofs.lemmas.Fmt.{decimal_by_steps}
use Rattle.std.proofs.lemmas.Bool.Decides.{nat_tests}
use Rattle.std.proofs.lemmas.List.{append_assoc, append-nil}
use Rattle.std.proofs.lemmas.Bool.{false≢true}
use Rattle.grammar.proofs.Bytes.{after-append}
use Rattle.model.specs.declared.step.Step.{Step}
use Rattle.model.specs.declared.step.Step.TheVariants.{Read, Write, Acquire, Release, WriteBack, Eject, Land}
use Rattle.grammar.specs.declared.kind.Kind.{Kind}
use Rattle.grammar.specs.declared.kind.Kind.TheVariants.{Run, Log}
use Rattle.grammar.specs.declared.trace_step.TraceStep.{TraceStep}
use Rattle.grammar.specs.declared.trace_step.TraceStep.TheVariants.{Plain, ReadWord}
use Rattle.grammar.specs.Fields.{kind_of, number_after}
use Rattle.grammar.specs.Numbers.{and_then, digits, number, alone, whole, place, place_alone, place_word}
use Rattle.grammar.specs.Pieces.{field, holds, piece, is_remark, field_of}
use Rattle.grammar.specs.Printing.{Word, Words, Writable, kind_line, field_line, place_text, word_text, step_line}
use Rattle.grammar.specs.Steps.{at, at_word, write_of, read_of, step_in}

-- a digit brings its value
more-digit : (m d : ℕ) (rest : List ℕ) → d < 10 → m * 10 + d ≤ 4294967295 → digits m ((48 + d) ∷ rest) ≡ digits (m * 10 + d) rest
more-digit m d rest h w = grind (arith, nat_tests)

-- ds are the digits of the number n
abbrev Front : ℕ → List ℕ → Type 0
Front n ds = n ≤ 4294967295 → (rest : List ℕ) → number (ds ++ rest) ≡ cond (eqb n 0) (Some (0, rest)) (digits n rest)

front-one : (n : ℕ) → n < 10 → Front n ((48 + n) ∷ [])
front-one n h w rest = grind (arith, nat_tests)

front-more : (n : ℕ) (ds : List ℕ) → 10 ≤ n → Front (n / 10) ds → Front n (ds ++ (48 + n % 10) ∷ [])
front-more n ds h before w rest =
    let d : n % 10 < 10 = omega arith in
    let whole-n : n / 10 * 10 + n % 10 ≡ n = omega arith in
    let digit = more-digit (n / 10) (n % 10) rest d (omega arith) in
    let front = before (omega arith) ((48 + n % 10) ∷ rest) in
    rw append_assoc (grind (arith, nat_tests))

-- what follows a number does not go on with a digit
abbrev quiet : List ℕ → Bool
quiet [] = true
quiet (c ∷ cs) = not (is_ascii_digit c)

digits-stop : (n : ℕ) (rest : List ℕ) → quiet rest ≡ true → digits n rest ≡ Some (n, rest)
digits-stop n [] q = refl
digits-stop n (c ∷ cs) q = grind (arith, nat_tests)

number-back : (n : ℕ) (rest : List ℕ) → Word n → quiet rest ≡ true → number (decimal n ++ rest) ≡ Some (n, rest)
number-back n rest w q =
    let front = decimal_by_steps Front front-one front-more n (omega arith) w rest in
    let stop = digits-stop n rest q in
    grind (arith, nat_tests)

pub whole_back : (n : ℕ) → Word n → whole (decimal n) ≡ Some n
whole_back n w = ap whole (sym (append-nil (decimal n))) ∙ ap alone (number-back n [] w refl)

place-back : (b c : ℕ) (rest : List ℕ) → Word b → Word c → quiet rest ≡ true → place (decimal b ++ 46 ∷ (decimal c ++ rest)) ≡ Some ((b, c), rest)
place-back b c rest v w q = rw (number-back b (46 ∷ (decimal c ++ rest)) v refl, number-back c rest w q)

alone-back : (b c : ℕ) → Words b c → place_alone (place_text b c) ≡ Some (b, c)
alone-back b c w =
    ap (λ s. place_alone (decimal b ++ 46 ∷ s)) (sym (append-nil (decimal c))) ∙ ap alone (place-back b c [] w.0 w.1 refl)

word_back : (b c n : ℕ) → Words b c → Word n → place_word (word_text b c n) ≡ Some ((b, c), n)
word_back b c n w v = rw (place-back b c (46 ∷ decimal n) w.0 w.1 refl, whole_back n v)

-- the line of a step is read as that step

at_back : (f : ℕ → ℕ → Step) (b c : ℕ) → Words b c → at (place_text b c) f ≡ Some (Plain (f b c))
at_back f b c w = rw (alone-back b c w)

at-word-back : (f : ℕ → ℕ → ℕ → TraceStep) (b c v : ℕ) → Words b c → Word v → at_word (word_text b c v) f ≡ Some (f b c v)
at-word-back f b c v w x = rw (word_back b c v w x)

pub step_back : (k : Kind) (s : TraceStep) → Writable k s → and_then (piece (step_line s)) (step_in k) ≡ Some s
step_back k (Plain (Read b c)) w = ap (λ j. read_of j (place_text b c)) w.0 ∙ at_back Read b c w.1
step_back k (Plain (Write b c v)) w = at-word-back write_of b c v w.0 w.1
step_back k (Plain (Acquire b c)) w = at_back Acquire b c w
step_back k (Plain (Release b c)) w = at_back Release b c w
step_back k (Plain (WriteBack b c)) w = at_back WriteBack b c w
step_back k (Plain (Eject b c)) w = at_back Eject b c w
step_back k (Plain Land) w = refl
step_back k (ReadWord b c v) w = ap (λ j. read_of j (word_text b c v)) w.0 ∙ at-word-back ReadWord b c v w.1.0 w.1.1

-- so are the lines of the header

pub kind-back : (k : Kind) → and_then (and_then (piece (kind_line k)) field_of) kind_of ≡ Some k
kind-back Run = refl
kind-back Log = refl

holds-append : (b : ℕ) (xs ys : List ℕ) → holds b (xs ++ ys) ≡ (holds b xs || holds b ys)
holds-append b [] ys = refl
holds-append b (x ∷ xs) ys = rw (holds-append b xs ys) (grind (arith, nat_tests))

-- a field's name with its equals sign, which starts neither as a remark nor as a step
abbrev pub named : List ℕ → Bool
named [] = false
named (a ∷ []) = false
named (a ∷ b ∷ q) = not (eqb a 35) && (not (eqb b 61) && holds 61 (a ∷ b ∷ q))

field_is : (p ds : List ℕ) → named p ≡ true → piece (p ++ ds) ≡ Some (field (p ++ ds))
field_is [] ds h = absurd (false≢true h)
field_is (a ∷ []) ds h = absurd (false≢true h)
field_is (a ∷ b ∷ q) ds h =
    let apart = holds-append 61 q ds in
    grind (arith, nat_tests)

pub field_back : (p : List ℕ) (n : ℕ) → named p ≡ true → Word n → and_then (and_then (piece (field_line p n)) field_of) (number_after p) ≡ Some n
field_back p n h w =
    ap (λ o. and_then (and_then o field_of) (number_after p)) (field_is p (decimal n) h)
    ∙ ap (λ o. and_then o whole) (after-append p (decimal n))
    ∙ whole_back n w

-- no byte 10 is printed inside a line

number-plain : (n : ℕ) → Word n → holds 10 (decimal n) ≡ false
number-plain n w =
    decimal_by_steps (λ m ds. holds 10 ds ≡ false) (λ m _. grind (arith, nat_tests))
    (λ m ds _ h. rw (holds-append 10 ds ((48 + m % 10) ∷ [])) (grind (arith, nat_tests)))
    n (omega arith)

place-plain : (b c : ℕ) → Words b c → holds 10 (place_text b c) ≡ false
place-plain b c w = simp (holds-append, number-plain b w.0, number-plain c w.1) refl

word-plain : (b c v : ℕ) → Words b c → Word v → holds 10 (word_text b c v) ≡ false
word-plain b c v w x = simp (holds-append, number-plain b w.0, number-plain c w.1, number-plain v x) refl

pub step-plain : (k : Kind) (s : TraceStep) → Writable k s → holds 10 (step_line s) ≡ false
step-plain k (Plain (Read b c)) w = place-plain b c w.1
step-plain k (Plain (Write b c v)) w = word-plain b c v w.0 w.1
step-plain k (Plain (Acquire b c)) w = place-plain b c w
step-plain k (Plain (Release b c)) w = place-plain b c w
step-plain k (Plain (WriteBack b c)) w = place-plain b c w
step-plain k (Plain (Eject b c)) w = place-plain b c w
step-plain k (Plain Land) w = refl
step-plain k (ReadWord b c v) w = word-plain b c v w.1.0 w.1.1

pub kind-plain : (k : Kind) → holds 10 (kind_line k) ≡ false
kind-plain Run = refl
kind-plain Log = refl

pub field_plain : (p : List ℕ) (n : ℕ) → holds 10 p ≡ false → Word n → holds 10 (field_line p n) ≡ false
field_plain p n h w = simp (holds-append, h, number-plain n w) refl

-- none of the lines is a remark

pub step-told : (s : TraceStep) → is_remark (piece (step_line s)) ≡ false
step-told (Plain (Read b c)) = refl
step-told (Plain (Write b c w)) = refl
step-told (Plain (Acquire b c)) = refl
step-told (Plain (Release b c)) = refl
step-told (Plain (WriteBack b c)) = refl
step-told (Plain (Eject b c)) = refl
step-told (Plain Land) = refl
step-told (ReadWord b c w) = refl

pub kind-told : (k : Kind) → is_remark (piece (kind_line k)) ≡ false
kind-told Run = refl
kind-told Log = refl

pub field_told : (p : List ℕ) (n : ℕ) → named p ≡ true → is_remark (piece (field_line p n)) ≡ false
field_told p n h = ap is_remark (field_is p (decimal n) h)

use Rattle.std.proofs.Common.{◌≡◌, ℕ, zero, suc, ◌+◌, not, ◌&&◌, ltb, List, [], ◌∷◌, length, drop, sym, refl, ap, ◌∙◌, arith, rules, tests}
use Rattle.std.proofs.lemmas.Iterator.{YieldsList-from_range}
use Rattle.std.proofs.lemmas.Iterator.Search.{all_from_yields_List}
use Rattle.std.proofs.lemmas.List.{at_drop_more, at_drop_all}
use Rattle.std.proofs.lemmas.Bool.{lt-ltb}
use Rattle.std.specs.List.{list_all, range_with_len}
use Rattle.model.specs.declared.carry.Carry.{Carry}
use Rattle.carries.specs.Lines.{line}
use Rattle.state.specs.Opening.{quiet}
use Rattle.engine.proofs.bench.opening.is_quiet.Goals as goal

quiet-first : (l : List Carry) (ls : List (List Carry)) → (not (ltb 0 (length l)) && quiet ls) ≡ quiet (l ∷ ls)
quiet-first [] ls = refl
quiet-first (x ∷ l) ls = ap (λ t. not t && quiet ls) (lt-ltb 0 (suc (length l)) (omega arith))

quiet-from : (ls : List (List Carry)) (b n : ℕ) → b + n ≡ length ls → list_all (λ c. not (ltb 0 (length (line ls c)))) (range_with_len b n) ≡ quiet (drop b ls)
quiet-from ls b zero e = sym (at_drop_all quiet ls b (omega arith))
quiet-from ls b (suc n) e =
    ap (λ t. not (ltb 0 (length (line ls b))) && t) (quiet-from ls (b + 1) n (omega arith))
    ∙ quiet-first (line ls b) (drop (b + 1) ls)
    ∙ sym (at_drop_more quiet ls b [] (omega arith))

pub returns : goal.returns
returns g c =
    let ls = g.P.Path.lines c.args.path.now in
    let each = all_from_yields_List (λ b. not (ltb 0 (length (line ls b)))) _ _ c.all.result c.all.ensures.ran (YieldsList-from_range 0 8 8 (search rules) refl) (λ x b q k. search (rules, tests)) in
    each ∙ quiet-from ls 0 8 (omega (arith, (g.met.P.Path.proper c.args.path.now).eight))

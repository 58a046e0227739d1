use Rattle.std.proofs.Common.{◌≡◌, ℕ, max, get_or, set, sym, refl, ap, ◌∙◌, arith}
use Rattle.std.proofs.lemmas.List.{length-set, get_or-set_other, ext_get_or}
use Rattle.std.proofs.lemmas.List.Edits.{fill_by_more}
use Rattle.order.specs.Test.{later}
use Rattle.order.proofs.Tests.{get_or-later, length-later}
use Rattle.judge.proofs.views.greater.Goals as goal

pub loop-i-init : goal.loop-i-init
loop-i-init c = record { below = λ k l. omega arith; above = λ k l. refl; nine = omega arith }

pub loop-i-preserved : goal.loop-i-preserved
loop-i-preserved c =
    let items = c.loop-i.bound-items in
    let i = c.loop-i.i in
    let greatest : ℕ → ℕ = λ k. max (get_or c.args.a k 0) (get_or c.args.b k 0) in
    let here : c.max.result ≡ greatest i = omega (arith, c.max.ensures, c.loop-i.invariant.above i (omega arith)) in
    record {
      below = λ k l. ap (λ v. get_or (set items i v) k 0) here ∙ fill_by_more greatest items i 0 (omega (arith, c.loop-i.invariant.nine)) c.loop-i.invariant.below k l;
      above = λ k l. get_or-set_other items i k _ 0 (omega arith) ∙ c.loop-i.invariant.above k (omega arith);
      nine = length-set items i _ ∙ c.loop-i.invariant.nine;
    }

pub returns : goal.returns
returns c =
    let a = c.args.a in
    let b = c.args.b in
    let nine = c.loop-i.invariant.nine in
    ext_get_or 0 c.loop-i.bound-items (later a b) (omega (arith, length-later a b)) (λ k l. c.loop-i.invariant.below k (omega arith) ∙ sym (get_or-later a b k))

use Rattle.std.proofs.Common.{◌≡◌, ℕ, ◌+◌, ◌<◌, Bool, true, false, List, length, get_or, Some, None, refl, arith, rules}
use Rattle.std.proofs.iter.runs.Sources.{ranges}
use Rattle.std.proofs.lemmas.Grind.{common_steps}
use Rattle.order.specs.Test.{legal_under}
use Rattle.judge.proofs.Finding.{passing, highest-last}
use Rattle.judge.proofs.history.History.highest_legal.Goals as goal

-- `ranges` tells what the search came past at the places where some list is read
pub returns : goal.returns
unfolding legal_under
returns c =
    let h = c.args.self.events.now in
    let w = c.args.wanted.now in
    let n : ℕ = length h in
    let some : List ℕ = w.over in
    let pass : ℕ → Bool = passing w.over h w.start w.cell w.word in
    let none : c.find.result ≡ None → (k : ℕ) → k < n + 1 → pass k ≡ false = λ e k l. let read : get_or some k 0 ≡ get_or some k 0 = refl in grind (ranges, common_steps, arith) in
    let within : (m : ℕ) → c.find.result ≡ Some m → m < n + 1 = λ m e. search (rules, ranges) in
    let passes : (m : ℕ) → c.find.result ≡ Some m → pass m ≡ true = λ m e. search (rules, ranges) in
    let above : (m : ℕ) → c.find.result ≡ Some m → (k : ℕ) → m < k → k < n + 1 → pass k ≡ false = λ m e k l u. let read : get_or some k 0 ≡ get_or some k 0 = refl in grind (ranges, common_steps, arith) in
    highest-last pass n c.find.result none within passes above

use Rattle.std.proofs.Common.{◌≡◌, ℕ, ◌<◌, ◌≤◌, max, length, get_or}
use Rattle.judge.proofs.views.greater.Given as goal

-- the writers below i have the greater bound, the others their own
abbrev pub invariant-loop-i : goal.invariant-loop-i
invariant-loop-i l = record {
  below : (k : ℕ) → k < l.i → get_or l.bound-items k 0 ≡ max (get_or l.fn.a k 0) (get_or l.b k 0);
  above : (k : ℕ) → l.i ≤ k → get_or l.bound-items k 0 ≡ get_or l.fn.a k 0;
  nine : length l.bound-items ≡ 9;
}

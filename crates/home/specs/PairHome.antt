-- The words of a pair home.
use Rattle.std.specs.Prelude.{ℕ, cond, List, nat_lt}
use Rattle.home.specs.declared.pair_home.PairHome.{PairHome}
use Rattle.home.specs.Pairs.{pair_words}

abbrev pub words_of : PairHome → List ℕ
words_of h = pair_words h.cells h.start h.pairs.items

-- asked for more than 64 cells, a pair home has none
abbrev pub size_for : ℕ → ℕ
size_for n = cond (nat_lt 64 n) 0 n

use Rattle.std.proofs.Common.{ℕ, ◌<◌, length, sym, ap, ◌∙◌, subst, arith}
use Rattle.home.specs.declared.pair_home.PairHome.{PairHome}
use Rattle.home.specs.PairHome.{words_of}
use Rattle.home.specs.Pairs.{within, Once}
use Rattle.home.proofs.Kept.{pair, words-length, stored, within_replaced, once_replaced, within_added, once_added, room}
use Rattle.home.proofs.pair_home.PairHome.put.Goals as goal

has : (h : PairHome) (cell : ℕ) → cell < length (words_of h) → cell < h.cells
has h cell p = omega (arith, words-length h.cells h.start h.pairs.items)

pub invariant_of-self : goal.invariant_of-self
invariant_of-self c =
    let h = c.args.self.now in
    let at = sym c.place_of.ensures ∙ c.in-Some.is in
    let wrote = stored h.pairs.items c.deref_mut.result.now c.in-Some.at (pair c.args.cell c.args.word) c.deref_mut.ensures.value in
    record {
      few = h.few;
      inside = ap (within h.cells) wrote ∙ within_replaced h.pairs.items c.in-Some.at c.args.cell c.args.word at h.cells h.inside;
      once = subst Once (sym wrote) (once_replaced h.pairs.items c.in-Some.at c.args.cell c.args.word at h.once);
    }

pub push-requires : goal.push-requires
push-requires c =
    let h = c.args.self.now in
    let none = sym c.place_of.ensures ∙ c.in-None.is in
    omega (arith, h.few, room h.pairs.items c.args.cell c.args.word none h.cells h.inside h.once (has h c.args.cell c.requires))

pub invariant_of-self-in-None : goal.invariant_of-self-in-None
invariant_of-self-in-None c =
    let h = c.args.self.now in
    let none = sym c.place_of.ensures ∙ c.in-None.is in
    record {
      few = h.few;
      inside = ap (within h.cells) c.push.ensures.items ∙ within_added h.pairs.items c.args.cell c.args.word none h.cells h.inside (has h c.args.cell c.requires);
      once = subst Once (sym c.push.ensures.items) (once_added h.pairs.items c.args.cell c.args.word none h.once);
    }

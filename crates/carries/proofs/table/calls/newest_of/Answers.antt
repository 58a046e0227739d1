use Rattle.std.proofs.Common.{◌<◌, length, sym, ◌∙◌, rules, arith}
use Rattle.carries.specs.Lines.{of_lane}
use Rattle.carries.proofs.Newest.{place_in, none_kept, kept_at}
use Rattle.carries.proofs.table.calls.newest_of.Goals as goal

pub map-requires : goal.map-requires
map-requires c = λ x is.
    let inside : x < length c.args.carries.now = place_in (of_lane c.args.board c.args.cell) c.args.carries.now x (sym is ∙ c.newest.ensures) in
    search rules

pub returns : goal.returns
returns c = grind (arith, none_kept (of_lane c.args.board c.args.cell) c.args.carries.now, kept_at (of_lane c.args.board c.args.cell) c.args.carries.now)

use Rattle.std.proofs.Common.{rules}
use Rattle.model.specs.Search.{is_of}
use Rattle.model.proofs.Searches.{last_place-found}
use Rattle.model.proofs.search.newest.Goals as goal

pub returns : goal.returns
returns g c =
    let p = is_of g.R.Located.board_of g.R.Located.cell_of c.args.board c.args.cell in
    last_place-found p c.args.records.now c.rposition.result (search rules)

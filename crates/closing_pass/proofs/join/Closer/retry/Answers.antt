use Rattle.closing_pass.proofs.Trying.{joins_grow}
use Rattle.closing_pass.proofs.join.Closer.retry.Goals as goal

pub map_back-back-requires-clause-grows : goal.map_back-back-requires-clause-grows
map_back-back-requires-clause-grows c =
    let joins = rw c.in-Ok-false.field-0-test at c.in-Ok-false.ensures.rejoined in
    joins_grow c.args.self.now.lat.now c.args.self.now.via_cost c.args.board.now c.args.copy c.rejoin.new.board
    c.requires.closes joins.1.closes

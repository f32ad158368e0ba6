use Rattle.std.proofs.Common.{sym, ◌∙◌, arith}
use Rattle.wave_search.proofs.Table.{within}
use Rattle.wave_search.proofs.query.Query.choose_over.Goals as goal

pub choose_from-requires-clause-small : goal.choose_from-requires-clause-small
choose_from-requires-clause-small g c =
    c.requires.small c.in-Some.node c.in-Some-get.label (sym c.get.ensures ∙ c.in-Some-get.is)

pub choose_from-requires-clause-node : goal.choose_from-requires-clause-node
choose_from-requires-clause-node g c =
    let w = within c.args.table.now c.in-Some.node c.in-Some-get.label (sym c.get.ensures ∙ c.in-Some-get.is) in
    omega (arith, w, c.requires.size)

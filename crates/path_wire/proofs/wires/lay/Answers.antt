use Rattle.std.proofs.Common.{◌++◌, ap, true, ◌∙◌}
use Rattle.path_wire.specs.Wires.{copper_from}
use Rattle.path_wire.proofs.wires.lay.Goals as goal

pub returns : goal.returns
returns c =
    c.in_ok-push_all.ensures
    ∙ ap (λ ms. ms ++ copper_from c.args.lat.now c.args.width true c.args.nodes.now c.args.moves.now)
    c.new-metals.ensures

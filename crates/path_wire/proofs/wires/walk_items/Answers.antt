use Rattle.std.proofs.Common.{◌+◌, length, ap, sym, ◌∙◌}
use Rattle.path_wire.proofs.Laying.{walk_length}
use Rattle.path_wire.proofs.wires.walk_items.Goals as goal

pub lay-requires-clause-lengths : goal.lay-requires-clause-lengths
lay-requires-clause-lengths c =
    ap length c.as_slice-2.ensures ∙ walk_length c.args.d.now c.args.lat.now c.args.net c.args.w.now.nodes
    c.args.w.now.moves c.requires.leads ∙ ap (λ xs. length xs + 1) (sym c.as_slice-3.ensures)

use Rattle.std.proofs.Common.{ap, ◌∙◌}
use Rattle.pcb_model.specs.declared.near.Extent.{Extent}
use Rattle.pcb_model.proofs.Least.{box_is}
use Rattle.pcb_model.proofs.near.Extent.of_piece.Goals as goal

pub returns-clause-bounds : goal.returns-clause-bounds
returns-clause-bounds c =
    ap (λ (e : Extent). e.bounds) c.on_layer.ensures.is ∙ box_is c.args.p.now.spine c.box_of.result c.requires.within
    c.box_of.ensures

use Rattle.std.proofs.Common.{ap, ◌∙◌}
use Rattle.pcb_model.specs.declared.near.Extent.{Extent}
use Rattle.pcb_model.proofs.near.Extent.of_moved_piece.Goals as goal

pub returns-clause-bounds : goal.returns-clause-bounds
returns-clause-bounds c = ap (λ (e : Extent). e.bounds) c.on_layer.ensures.is ∙ c.moved_box.ensures.least

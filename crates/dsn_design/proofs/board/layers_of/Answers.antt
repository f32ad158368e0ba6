use Rattle.std.proofs.Common.{ℕ, Bool, List, ◌∙◌, ap}
use Rattle.pcb_model.specs.declared.design.BoardLayer.{BoardLayer}
use Rattle.dsn_shapes.proofs.Looped.{mapped_more}
use Rattle.dsn_design.specs.Made.{board_layer}
use Rattle.dsn_design.proofs.board.layers_of.Goals as goal

abbrev named : Bool → List ℕ → BoardLayer
named power name = record { name = name; power = power }

pub loop-layer-preserved : goal.loop-layer-preserved
loop-layer-preserved c =
    let name = c.in_ok-from_slice.field-0 in
    let layer = c.layer-item.result in
    c.in_ok-push.ensures.ok
    ∙ mapped_more board_layer c.args.layers.now c.loop-layer.layer-index layer c.loop-layer.all
    (named layer.power name) c.loop-layer-test.true c.layer-item.is c.loop-layer.invariant
    (ap (named layer.power) (c.in_ok-from_slice.ensures ∙ c.as_slice.ensures))

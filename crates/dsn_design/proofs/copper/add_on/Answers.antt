use Rattle.std.proofs.Common.{ℕ, ◌∙◌, ap, get_or}
use Rattle.geo_kernel.specs.declared.spine.Spine.{Spine}
use Rattle.pcb_model.specs.declared.item.Piece.{Piece}
use Rattle.dsn_design.specs.Copper.{piece_on}
use Rattle.dsn_design.proofs.Loops.{pushed_at}
use Rattle.dsn_design.proofs.copper.add_on.Goals as goal

abbrev along : ℕ → ℕ → Spine → Piece
along layer width spine = record { layer = layer; spine = spine; width = width }

pub loop-layer-preserved : goal.loop-layer-preserved
loop-layer-preserved c =
    let i = c.loop-layer.layer-index in
    let one = along (get_or c.args.layers.now i 0) c.args.shape.now.width in
    c.in_ok-push.ensures.ok
    ∙ pushed_at (piece_on c.args.shape.now) c.args.layers.now i 0 c.args.pieces.now c.loop-layer.pieces
    (one c.in_ok-copy_spine.field-0) c.loop-layer-test.true c.loop-layer.invariant (ap one c.in_ok-copy_spine.ensures)

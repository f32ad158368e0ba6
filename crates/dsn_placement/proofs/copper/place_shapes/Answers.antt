use Rattle.std.proofs.Common.{◌∙◌, ◌^◌, subst, sym}
use Rattle.geo_kernel.specs.Spine.{IsSpineWithin}
use Rattle.dsn_shapes.specs.declared.parts.LayerShape.{LayerShape}
use Rattle.dsn_placement.specs.Copper.{all_or_none, placed_shape}
use Rattle.dsn_placement.proofs.Each.{all_made, none_made, not_made, one_made}
use Rattle.dsn_placement.proofs.copper.place_shapes.Goals as goal

pub loop-shape-init : goal.loop-shape-init
loop-shape-init c =
    none_made c.new-placed.result (all_or_none (placed_shape c.args.count c.args.seat) c.args.shapes.now)
    c.new-placed.ensures

pub place_shape-requires-clause-shape_within : goal.place_shape-requires-clause-shape_within
place_shape-requires-clause-shape_within c =
    subst (λ (s : LayerShape). IsSpineWithin (2 ^ 29) s.spine) (sym c.shape-item.is)
    (c.requires.shapes_within c.loop-shape.shape-index c.shape-item.result c.loop-shape-test.true)

pub returns-in-None : goal.returns-in-None
returns-in-None c =
    not_made (placed_shape c.args.count c.args.seat) c.args.shapes.now c.loop-shape.shape-index c.shape-item.result
    c.loop-shape.placed c.loop-shape-test.true c.shape-item.is (sym c.in_ok-s.ensures ∙ c.in-None.is)
    c.loop-shape.invariant

pub loop-shape-preserved : goal.loop-shape-preserved
loop-shape-preserved c =
    one_made (placed_shape c.args.count c.args.seat) c.args.shapes.now c.loop-shape.shape-index c.shape-item.result
    c.in-Some.s c.loop-shape.placed c.push.new.self c.loop-shape-test.true c.shape-item.is
    (sym c.in_ok-s.ensures ∙ c.in-Some.is) c.in_ok-push-in-Some.ensures.ok c.loop-shape.invariant

pub returns : goal.returns
returns c =
    all_made (placed_shape c.args.count c.args.seat) c.args.shapes.now c.loop-shape.shape-index c.loop-shape.placed
    c.loop-shape-test.false c.loop-shape.invariant

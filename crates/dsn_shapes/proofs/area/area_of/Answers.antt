use Rattle.std.proofs.Common.{◌≡◌, ◌∙◌, ap, ℕ, ◌≤◌, List, length, take, map}
use Rattle.std.specs.List.{fold}
use Rattle.std.specs.Prelude.{max}
use Rattle.std.proofs.lemmas.List.{take_all}
use Rattle.geo_kernel.specs.declared.point.Point.{Point}
use Rattle.geo_kernel.specs.declared.spine.Spine.TheVariants.{Area}
use Rattle.dsn_shapes.specs.declared.parts.LayerShape.{LayerShape}
use Rattle.dsn_shapes.specs.declared.shape.Rim.{Rim}
use Rattle.dsn_shapes.specs.Shapes.{area_of, first_layers}
use Rattle.dsn_shapes.proofs.Looped.{mapped_more}
use Rattle.dsn_shapes.proofs.area.area_of.Goals as goal

abbrev made : ℕ → List (List Point) → ℕ → LayerShape
made layers loops width = record { layers = layers; spine = Area loops; width = width }

-- the area of the loops, where all are seen
area_made : (rims : List Rim) (i layers width : ℕ) (loops : List (List Point)) → length rims ≤ i
    → loops ≡ map (λ (r : Rim). r.points) (take i rims) → layers ≡ first_layers rims
    → width ≡ fold (λ w (r : Rim). max w r.width) 0 rims → made layers loops width ≡ area_of rims
unfolding area_of
area_made rims i layers width loops h p q r =
    ap (λ n. made n loops width) q
    ∙ ap (λ ls. made (first_layers rims) ls width) (p ∙ ap (map (λ (r : Rim). r.points)) (take_all i rims h))
    ∙ ap (made (first_layers rims) (map (λ (r : Rim). r.points) rims)) r

pub loop-rim-preserved : goal.loop-rim-preserved
loop-rim-preserved c =
    c.in_ok-push.ensures.ok
    ∙ mapped_more (λ (r : Rim). r.points) c.args.rims.now c.loop-rim.rim-index c.rim-item.result c.loop-rim.loops
    c.in_ok-from_slice.field-0 c.loop-rim-test.true c.rim-item.is c.loop-rim.invariant
    (c.in_ok-from_slice.ensures ∙ c.as_slice.ensures)

pub returns : goal.returns
returns c =
    area_made c.args.rims.now c.loop-rim.rim-index c.first_layers.result c.greatest_width.result c.loop-rim.loops
    c.loop-rim-test.false c.loop-rim.invariant c.first_layers.ensures c.greatest_width.ensures

use Rattle.std.proofs.Common.{List, get_or, flat_map, refl, sym, ap, ◌∙◌, subst}
use Rattle.geo_kernel.specs.declared.point.Point.{Point}
use Rattle.geo_kernel.specs.declared.point.Rect4.{Rect4}
use Rattle.geo_kernel.specs.Boxes.{IsLeastBox}
use Rattle.route_lattice.specs.Gather.{widened, first_points}
use Rattle.route_lattice.specs.Parts.{IsBoxWithin}
use Rattle.route_lattice.proofs.Outlines.{outline_value, outline_least, outline_within}
use Rattle.route_lattice.proofs.outline.outline.Goals as goal

pub returns-clause-value : goal.returns-clause-value
returns-clause-value c =
    let loops = c.as_slice-loops.result.now in
    c.grown_by_loops.ensures ∙ ap (λ (b : Rect4). widened b (flat_map (λ x. x) loops)) c.box_at.ensures
    ∙ outline_value c.args.d.now c.requires loops _ c.as_slice-2.result.now _ _ _
    (c.as_slice-loops.ensures ∙ c.index-as_slice-0.is
    ∙ ap (λ (xs : List (List (List Point))). get_or xs 0 c.index-as_slice-0.result) c.as_slice.ensures)
    (c.as_slice-2.ensures ∙ c.index-loops-0.is) refl

pub returns-clause-least : goal.returns-clause-least
returns-clause-least c =
    subst (IsLeastBox (first_points c.args.d.now.bounds)) (sym (returns-clause-value c))
    (outline_least c.args.d.now c.requires)

pub returns-clause-within : goal.returns-clause-within
returns-clause-within c = subst IsBoxWithin (sym (returns-clause-value c)) (outline_within c.args.d.now c.requires)

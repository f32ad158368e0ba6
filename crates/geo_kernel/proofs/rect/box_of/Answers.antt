use Rattle.std.proofs.Common.{sym, ap, ◌∙◌}
use Rattle.geo_kernel.specs.Spine.{vertices}
use Rattle.geo_kernel.specs.declared.spine.Spine.TheVariants.{Chain, Area}
use Rattle.geo_kernel.proofs.Growing.{box_is}
use Rattle.geo_kernel.proofs.rect.box_of.Goals as goal

pub returns-in-Chain : goal.returns-in-Chain
returns-in-Chain c =
    box_is c.args.s.now c.first_point.result c.box_at-start.result c.grow.result _ c.first_point.ensures.first
    c.box_at-start.ensures (ap vertices (c.in-Chain.is ∙ ap Chain (sym c.as_slice.ensures))) c.grow.ensures

pub returns-in-Area : goal.returns-in-Area
returns-in-Area c =
    box_is c.args.s.now c.first_point.result c.box_at-start.result c.grow_all.result _ c.first_point.ensures.first
    c.box_at-start.ensures (ap vertices (c.in-Area.is ∙ ap Area (sym c.as_slice-in-Area.ensures)))
    c.grow_all.ensures

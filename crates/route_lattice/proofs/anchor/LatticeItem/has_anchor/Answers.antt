use Rattle.std.proofs.Common.{◌<◌, All, ap, subst, sym, ◌∙◌, ◌^◌}
use Rattle.geo_kernel.specs.Plane.{IsWithin}
use Rattle.pcb_model.specs.Bounds.{IsFit}
use Rattle.route_lattice.specs.Mesh.{node_count, point_of, layer_of}
use Rattle.route_lattice.specs.Found.{LatticeItemOf}
use Rattle.route_lattice.proofs.Anchoring.{anchors_then, anchors_else}
use Rattle.route_lattice.proofs.Fitting.{point_within}
use Rattle.route_lattice.proofs.anchor.LatticeItem.has_anchor.Goals as goal

pub point-p-requires : goal.point-p-requires
point-p-requires c = subst (λ (s : LatticeItemOf). c.args.node < node_count s.lat) (sym c.self.view_is) c.requires

pub layer-requires : goal.layer-requires
layer-requires c = subst (λ (s : LatticeItemOf). c.args.node < node_count s.lat) (sym c.self.view_is) c.requires

pub is_anchor-requires : goal.is_anchor-requires
is_anchor-requires c =
    subst (IsWithin (2 ^ 29)) (sym c.point-p.ensures)
    (point_within c.self.inside.d.now c.self.inside.lat.now c.args.node c.self.invariant.fits
    (subst (λ (s : LatticeItemOf). c.args.node < node_count s.lat) (sym c.self.view_is) c.requires))

pub some_holds-requires-clause-p_within : goal.some_holds-requires-clause-p_within
some_holds-requires-clause-p_within c =
    subst (IsWithin (2 ^ 29)) (sym c.point-p.ensures)
    (point_within c.self.inside.d.now c.self.inside.lat.now c.args.node c.self.invariant.fits
    (subst (λ (s : LatticeItemOf). c.args.node < node_count s.lat) (sym c.self.view_is) c.requires))

pub some_holds-requires-clause-fit : goal.some_holds-requires-clause-fit
some_holds-requires-clause-fit c =
    subst (All IsFit) (sym c.as_slice.ensures) c.self.invariant.item_fits.fits.pieces_fit

pub returns-then-is_anchor : goal.returns-then-is_anchor
returns-then-is_anchor c =
    let s = c.args.self.now in
    anchors_then s.d s.lat c.args.node s.item _
    (c.point-p.ensures ∙ ap (λ (t : LatticeItemOf). point_of t.lat c.args.node) c.self.view_is) _ _ _ _
    (c.layer.ensures ∙ ap (λ (t : LatticeItemOf). layer_of t.lat c.args.node) c.self.view_is)
    (c.as_slice.ensures ∙ ap (λ (t : LatticeItemOf). t.item.pieces) c.self.view_is)
    c.is_anchor.ensures c.if-is_anchor.true c.some_holds.ensures

pub returns-else-is_anchor : goal.returns-else-is_anchor
returns-else-is_anchor c =
    let s = c.args.self.now in
    anchors_else s.d s.lat c.args.node s.item _
    (c.point-p.ensures ∙ ap (λ (t : LatticeItemOf). point_of t.lat c.args.node) c.self.view_is) _ c.is_anchor.ensures
    c.if-is_anchor.false

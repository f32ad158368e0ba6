use Rattle.std.proofs.Common.{◌≤◌, ◌^◌, Some, sym, subst}
use Rattle.pcb_model.specs.declared.item.Kind.TheVariants as kind
use Rattle.pcb_model.proofs.Within.{clearance_within}
use Rattle.route_lattice.proofs.Fitting.{width_small}
use Rattle.move_maps.specs.declared.margins.Margins.{Margins}
use Rattle.move_maps.specs.Margins.{AreMargins}
use Rattle.move_maps.specs.Settings.{GroupOf}
use Rattle.move_maps.proofs.Fences.{margins_of}
use Rattle.move_maps.proofs.margins.Margins.of.Goals as goal

pub grow_for-requires-clause-reach : goal.grow_for-requires-clause-reach
grow_for-requires-clause-reach c = subst (λ n. n ≤ 2 ^ 28) (sym c.clearance-wires.ensures)
    (clearance_within (2 ^ 28) c.group.inside.d.now (Some c.group.inside.first) kind.Wire c.args.item.now.net
    c.args.item.now.kind c.group.invariant.can_move.sound.fits.rules_within)

pub grow_for-requires-clause-one : goal.grow_for-requires-clause-one
grow_for-requires-clause-one c = subst (λ n. n ≤ 2 ^ 28) (sym c.width_of-width.ensures)
    (width_small c.group.inside.d.now c.group.inside.first c.group.invariant.can_move.sound)

pub returns : goal.returns
returns c =
    let t = c.group.inside in
    let g = c.grown.ensures in
    let margins : Margins = record {
      width = c.width_of-width.result;
      wires = c.clearance-wires.result;
      vias = c.clearance.result;
      near = c.grown.result;
    } in
    subst (λ (s : GroupOf). AreMargins s.d s.first c.args.item.now margins) c.group.view_is
    (margins_of t.d.now t.first c.args.item.now c.args.extent margins c.grow_for.result c.requires.extent
    c.group.invariant.can_move.sound.fits.rules_within c.width_of-width.ensures c.clearance-wires.ensures
    c.clearance.ensures c.grow_for.ensures.enough g.x0 g.y0 g.x1 g.y1)

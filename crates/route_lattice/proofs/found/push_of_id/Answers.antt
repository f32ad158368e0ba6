use Rattle.std.proofs.Common.{sym, subst}
use Rattle.pcb_model.specs.Sound.{IsItemOf}
use Rattle.route_lattice.specs.Ground.{GroundOf}
use Rattle.route_lattice.specs.Found.{Gains, IsAnchorNode}
use Rattle.route_lattice.proofs.Gaining.{gains_nothing, gains_less, on_ok}
use Rattle.route_lattice.proofs.Among.{of_item, with_id, none_with_id}
use Rattle.std.specs.Prelude.{OnOk}
use Rattle.route_lattice.proofs.found.push_of_id.Goals as goal

pub invariant_of-sought : goal.invariant_of-sought
invariant_of-sought g c = record {
  sound = c.on.invariant.sound;
  fits = c.on.invariant.fits;
  item_fits = subst (λ (s : GroundOf). IsItemOf s.d c.in-Some.item.now) (sym c.on.view_is) c.in-Some.ensures.2;
}

pub returns-in-Some : goal.returns-in-Some
returns-in-Some g c =
    let d = c.args.on.now.d in let m = c.args.on.now.lat in let items = c.args.on.now.items in
    let item = c.in-Some.item.now in
    on_ok c.push_anchors.result
    (λ gained. gains_less _ _ _ _ _ _
    (λ v h. of_item d m items c.args.id item v c.in_order.ensures.ascends c.in-Some.ensures.0 c.in-Some.ensures.1 h)
    (λ v h. with_id d m items c.args.id item v c.in-Some.ensures.0 c.in-Some.ensures.1 h) gained)
    (subst (λ (s : GroundOf). OnOk c.push_anchors.result
    (Gains (IsAnchorNode s.d s.lat item) (IsAnchorNode s.d s.lat item) c.args.found.now.items
    c.push_anchors.new.found.items))
    c.on.view_is c.push_anchors.ensures)

pub returns-in-None : goal.returns-in-None
returns-in-None g c =
    gains_nothing _ _ _
    (λ v h. none_with_id c.args.on.now.d c.args.on.now.lat c.args.on.now.items c.args.id v c.in-None.ensures h)

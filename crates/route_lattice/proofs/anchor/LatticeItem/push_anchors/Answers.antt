use Rattle.std.proofs.Common.{List, length, ◌<◌, refl, sym, ap, ◌∙◌, subst}
use Rattle.geo_kernel.specs.declared.point.Point.{Point}
use Rattle.pcb_model.specs.Scale.{scale_of}
use Rattle.pcb_model.specs.Sound.{IsMetalInRange}
use Rattle.route_lattice.specs.Found.{LatticeItemOf, IsAnchorAlong}
use Rattle.route_lattice.proofs.Gaining.{gains_nothing, gains_less, on_ok}
use Rattle.route_lattice.proofs.Windows.{along, at_via, at_pad, at_ban}
use Rattle.route_lattice.proofs.anchor.LatticeItem.push_anchors.Goals as goal

pub returns-in-Wire : goal.returns-in-Wire
returns-in-Wire c =
    let metal = ap (λ (s : LatticeItemOf). s.item.metal) (sym c.self.view_is) in
    let d = c.args.self.now.d in let m = c.args.self.now.lat in let item = c.args.self.now.item in
    on_ok c.push_along.result
    (λ g. gains_less _ _ _ _ _ _
    (λ v h. subst (λ (ps : List Point). IsAnchorAlong d m item ps v) (sym c.as_slice.ensures)
    (along d m item v h c.in-Wire.layer c.in-Wire.width c.in-Wire.chain (metal ∙ c.in-Wire.is))) (λ v n. n) g)
    c.push_along.ensures

pub returns-in-Via : goal.returns-in-Via
returns-in-Via c =
    let metal = ap (λ (s : LatticeItemOf). s.item.metal) (sym c.self.view_is) in
    on_ok c.push_between.result
    (λ g. gains_less _ _ _ _ _ _
    (λ v h. at_via c.args.self.now.d c.args.self.now.lat c.args.self.now.item v h c.in-Via.padstack c.in-Via.at
    (metal ∙ c.in-Via.is))
    (λ v n. n) g) c.push_between.ensures

pub returns-in-Pad : goal.returns-in-Pad
returns-in-Pad c =
    let metal = ap (λ (s : LatticeItemOf). s.item.metal) (sym c.self.view_is) in
    on_ok c.push_between-in-Pad.result
    (λ g. gains_less _ _ _ _ _ _
    (λ v h. at_pad c.args.self.now.d c.args.self.now.lat c.args.self.now.item v h c.in-Pad.pin
    (scale_of c.args.self.now.d).nm c.pin_anchor-at.result (metal ∙ c.in-Pad.is) refl c.pin_anchor-at.ensures)
    (λ v n. n) g)
    c.push_between-in-Pad.ensures

pub returns-in-Ban : goal.returns-in-Ban
returns-in-Ban c =
    let metal = ap (λ (s : LatticeItemOf). s.item.metal) (sym c.self.view_is) in
    gains_nothing _ _ _
    (λ v h. at_ban c.args.self.now.d c.args.self.now.lat c.args.self.now.item v h c.in-Ban.wires c.in-Ban.vias
    (metal ∙ c.in-Ban.is))

pub pin_anchor-at-requires : goal.pin_anchor-at-requires
pin_anchor-at-requires c =
    subst (λ (s : LatticeItemOf). c.in-Pad.pin < length s.d.pins) c.self.view_is
    (subst (IsMetalInRange c.self.inside.d.now) c.in-Pad.is c.self.invariant.item_fits.metal_in_range)

use Rattle.std.proofs.Common.{◌≡◌, ◌<◌, List, length, Option, Some, sym, ap, ◌∙◌, subst}
use Rattle.std.specs.Prelude.{slice_get}
use Rattle.std.specs.Option.{IsSomeAnd}
use Rattle.pcb_model.specs.declared.design.Pin.{Pin}
use Rattle.pcb_model.specs.Scale.{scale_of}
use Rattle.route_lattice.specs.Anchors.{rounded}
use Rattle.route_lattice.specs.Found.{LatticeItemOf}
use Rattle.route_lattice.proofs.Gets.{at_get}
use Rattle.route_lattice.proofs.anchor.LatticeItem.pin_anchor.Goals as goal

pub returns : goal.returns
returns c =
    let d = c.args.self.now.d in
    let x = c.index-as_slice-pin.result in
    let ps = c.as_slice.result.now in
    let pins = c.as_slice.ensures ∙ ap (λ (s : LatticeItemOf). s.d.pins) c.self.view_is in
    let e : slice_get d.pins c.args.pin ≡ Some x =
    subst (λ (qs : List Pin). slice_get qs c.args.pin ≡ Some x) pins
    (at_get ps c.args.pin x
    (subst (λ (qs : List Pin). c.args.pin < length qs) (sym pins) c.requires)
    c.index-as_slice-pin.is) in
    subst (λ (o : Option Pin). IsSomeAnd o (λ (q : Pin). rounded (scale_of d).nm q.centre ≡ c.rounded.result)) (sym e)
    (ap (λ (q : Pin). rounded (scale_of d).nm q.centre) c.index-as_slice-pin.is ∙ sym c.rounded.ensures)

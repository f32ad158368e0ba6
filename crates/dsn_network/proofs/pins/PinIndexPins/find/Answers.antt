use Rattle.std.proofs.Common.{◌∙◌, ap, sym, Some}
use Rattle.std.specs.Option.{option_copied}
use Rattle.dsn_network.specs.Splits.{pin_among}
use Rattle.dsn_network.proofs.Found.{no_component, no_image, no_place, pin_there}
use Rattle.dsn_network.proofs.pins.PinIndexPins.find.Goals as goal

pub returns-in_err-k : goal.returns-in_err-k
returns-in_err-k c =
    let s = c.args.self.now in
    c.from_residual.ensures
    ∙ no_component s.lib.now s.placing.now c.args.component.now c.args.name.now s.places c.first_place.result s.by_place
    c.first_place.ensures c.in_err-k.was

pub returns-in_err-place : goal.returns-in_err-place
returns-in_err-place c =
    let s = c.args.self.now in
    c.from_residual-in_err-place.ensures
    ∙ no_place s.lib.now s.placing.now c.args.component.now c.args.name.now s.places c.first_place.result s.by_place
    c.first_place.ensures c.in_ok-k.k c.in_ok-k.was (sym c.get.ensures.value ∙ ap option_copied c.in_err-place.was)

pub returns-in_err-pins : goal.returns-in_err-pins
returns-in_err-pins c =
    let s = c.args.self.now in
    c.from_residual-in_err-pins.ensures
    ∙ no_image s.lib.now s.placing.now c.args.component.now c.args.name.now s.places c.first_place.result s.by_place
    c.first_place.ensures c.in_ok-k.k c.in_ok-k.was c.in_ok-place.place.now c.in_ok-place.ensures.value
    c.deref.result.now (c.deref.ensures.value ∙ s.by_image) c.in_err-pins.ensures.lookup.0

pub returns-in_err-j : goal.returns-in_err-j
returns-in_err-j c =
    let s = c.args.self.now in
    c.from_residual-in_err-j.ensures
    ∙ ap (pin_among c.in_ok-k.k) (sym c.in_err-j.was)
    ∙ pin_there s.lib.now s.placing.now c.args.component.now c.args.name.now s.places c.first_place.result s.by_place
    c.first_place.ensures c.in_ok-k.k c.in_ok-k.was c.in_ok-place.place.now c.in_ok-place.ensures.value
    c.deref.result.now (c.deref.ensures.value ∙ s.by_image) c.in_ok-pins.pins.now c.first_place-2.result
    c.in_ok-pins.ensures.lookup.3.0 c.in_ok-pins.ensures.lookup.1 c.first_place-2.ensures

pub returns : goal.returns
returns c =
    let s = c.args.self.now in
    ap Some c.pin_ref.ensures
    ∙ ap (pin_among c.in_ok-k.k) (sym c.in_ok-j.was)
    ∙ pin_there s.lib.now s.placing.now c.args.component.now c.args.name.now s.places c.first_place.result s.by_place
    c.first_place.ensures c.in_ok-k.k c.in_ok-k.was c.in_ok-place.place.now c.in_ok-place.ensures.value
    c.deref.result.now (c.deref.ensures.value ∙ s.by_image) c.in_ok-pins.pins.now c.first_place-2.result
    c.in_ok-pins.ensures.lookup.3.0 c.in_ok-pins.ensures.lookup.1 c.first_place-2.ensures

use Rattle.std.proofs.Common.{rules, ◌≡◌, List, ◌+◌, ◌∙◌, ◌++◌, ◌∷◌, [], ap, sym, subst, drop, refl}
use Rattle.pcb_model.specs.declared.design.Pin.{Pin}
use Rattle.dsn_shapes.specs.Within.{IsPinWithin}
use Rattle.dsn_design.specs.Counts.{pins_at, plus}
use Rattle.dsn_design.specs.Pins.{centre_of, pin_of, placed_as, placed_pin}
use Rattle.dsn_design.proofs.Loops.{one_left}
use Rattle.dsn_design.proofs.pins.push_pins.Goals as goal

pub pin_centre-requires-clause-pin_within : goal.pin_centre-requires-clause-pin_within
pin_centre-requires-clause-pin_within c =
    subst IsPinWithin (sym c.image_pin-item.is)
    (c.requires.pins_within c.loop-image_pin.image_pin-index c.image_pin-item.result c.loop-image_pin-test.true)

pub loop-image_pin-preserved : goal.loop-image_pin-preserved
unfolding pin_of centre_of
loop-image_pin-preserved c =
    let parts = c.args.board.now.parts.now in
    let stacks = c.args.board.now.stacks.now in
    let place = c.args.place.now in
    let number = c.args.number in
    let component = c.args.component in
    let pins = c.args.image_pins.now in
    let i = c.loop-image_pin.image_pin-index in
    let n = c.loop-image_pin.next in
    let pin = c.image_pin-item.result in
    let made : Pin = pin_of parts stacks (placed_pin (placed_as (component, (number, place))) (n, pin)) in
    let found : Pin = record {
      component = component;
      name = c.in_ok-from_slice.field-0;
      net = c.net_of_pin.result;
      centre = c.unwrap_or.result;
      smd = c.is_smd.result;
    } in
    let is : found ≡ made = search rules in
    ap (λ (xs : List Pin). xs
    ++ pins_at parts stacks number component place c.saturating_add-next.result (drop (i + 1) pins))
    (c.in_ok-push.ensures.ok ∙ ap (λ (p : Pin). c.loop-image_pin.pins ++ p ∷ []) is)
    ∙ ap (λ m. (c.loop-image_pin.pins ++ made ∷ []) ++ pins_at parts stacks number component place m
    (drop (i + 1) pins))
    c.saturating_add-next.ensures
    ∙ one_left (pins_at parts stacks number component place n) pins i pin c.loop-image_pin.pins made
    (pins_at parts stacks number component place (plus n 1) (drop (i + 1) pins))
    (c.args.pins.now ++ pins_at parts stacks number component place 0 pins) c.loop-image_pin-test.true
    c.image_pin-item.is refl c.loop-image_pin.invariant

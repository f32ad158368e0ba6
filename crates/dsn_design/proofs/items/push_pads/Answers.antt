use Rattle.std.proofs.Common.{rules, ◌≡◌, List, ◌+◌, ◌∙◌, ◌++◌, ◌∷◌, [], ap, sym, subst, drop, refl}
use Rattle.pcb_model.specs.declared.item.Item.{Item}
use Rattle.dsn_shapes.specs.Within.{IsPinWithin}
use Rattle.dsn_design.specs.Counts.{pads_at, plus}
use Rattle.dsn_design.specs.Items.{pad_item}
use Rattle.dsn_design.specs.Pins.{pin_ref}
use Rattle.dsn_design.proofs.Loops.{one_left}
use Rattle.dsn_design.proofs.items.push_pads.Goals as goal

pub pad_pieces-requires-clause-pin_within : goal.pad_pieces-requires-clause-pin_within
pad_pieces-requires-clause-pin_within c =
    subst IsPinWithin (sym c.pin-item.is)
    (c.requires.pins_within c.loop-pin.pin-index c.pin-item.result c.loop-pin-test.true)

pub loop-pin-preserved : goal.loop-pin-preserved
unfolding pad_item
loop-pin-preserved c =
    let parts = c.args.board.now.parts.now in
    let stacks = c.args.board.now.stacks.now in
    let place = c.args.place.now in
    let number = c.args.number in
    let pins = c.args.pins.now in
    let i = c.loop-pin.pin-index in
    let n = c.loop-pin.next in
    let k = c.loop-pin.count in
    let pin = c.pin-item.result in
    let more = c.loop-pin.items ++ pad_item parts stacks k (pin_ref number n) place pin ∷ [] in
    let is : c.fixed_item.result ≡ pad_item parts stacks k (pin_ref number n) place pin = search rules in
    ap (λ (xs : List Item). xs
    ++ pads_at parts stacks number place c.saturating_add-next.result c.saturating_add-count.result (drop (i + 1) pins))
    (c.in_ok-push.ensures.ok ∙ ap (λ (a : Item). c.loop-pin.items ++ a ∷ []) is)
    ∙ ap (λ m. more ++ pads_at parts stacks number place m c.saturating_add-count.result (drop (i + 1) pins))
    c.saturating_add-next.ensures
    ∙ ap (λ m. more ++ pads_at parts stacks number place (plus n 1) m (drop (i + 1) pins))
    c.saturating_add-count.ensures
    ∙ one_left (pads_at parts stacks number place n k) pins i pin c.loop-pin.items
    (pad_item parts stacks k (pin_ref number n) place pin)
    (pads_at parts stacks number place (plus n 1) (plus k 1) (drop (i + 1) pins))
    (c.args.items.now ++ pads_at parts stacks number place 0 c.args.first pins) c.loop-pin-test.true c.pin-item.is refl
    c.loop-pin.invariant

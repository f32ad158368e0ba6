use Rattle.std.proofs.Common.{◌≡◌, ◌∙◌, ◌<◌, ap, sym, length, get_or, true, false, arith, rules}
use Rattle.std.specs.Prelude.{is_some}
use Rattle.dsn_shapes.specs.declared.parts.PinRef.{PinRef}
use Rattle.dsn_network.specs.Nets.{has_pin}
use Rattle.dsn_network.specs.Owners.{net_by}
use Rattle.dsn_network.proofs.Owning.{has_next, new_pin, old_pin}
use Rattle.dsn_network.proofs.owners.each_once.Goals as goal
use Rattle.dsn_network.proofs.owners.each_once.Goals.{then-is_none+in_ok-keep_pin+in_ok-push, else-is_none}

pub loop-pin-preserved : goal.loop-pin-preserved
loop-pin-preserved c =
    let d : PinRef = record { place = 0; pin = 0 } in
    let x : PinRef = get_or c.args.pins.now c.loop-pin.pin-index d in
    let lt : c.loop-pin.pin-index < length c.args.pins.now = omega arith in
    let has = c.loop-pin.invariant.1 in
    elim c.if-is_none.branch [
      | then-is_none+in_ok-keep_pin+in_ok-push w ↦
          let none : is_some (net_by c.loop-pin.seen x) ≡ false = search rules in
          let more = w.once-is ∙ w.in_ok-push.ensures.ok in (
            new_pin c.args.pins.now c.loop-pin.once c.if-is_none.once c.loop-pin.pin-index d lt c.loop-pin.invariant.0
                (sym (has x) ∙ none) more,
            λ q. has_next q x c.loop-pin.once c.if-is_none.once (net_by c.loop-pin.seen q) (net_by c.if-is_none.seen q)
                0 (has q) (ap (λ m. net_by m q) w.seen-is ∙ w.in_ok-keep_pin.ensures q) more,
          )
      | else-is_none w ↦
          let some : is_some (net_by c.loop-pin.seen x) ≡ true = search rules in
          let same = w.once-is in (
            same ∙ old_pin c.args.pins.now c.loop-pin.once c.loop-pin.pin-index d lt c.loop-pin.invariant.0
                (sym (has x) ∙ some),
            λ q. ap (λ m. is_some (net_by m q)) w.seen-is ∙ has q ∙ sym (ap (has_pin q) same),
          )
    ]
